use Rattle.std.proofs.Common.{map}
use Rattle.sql_trees.specs.Statements.{column_of, select_of}
use Rattle.session_queries.proofs.Taking.{taken_answer}
use Rattle.session_queries.proofs.ordering.taken_places.Goals as goal

pub returns-clause-places : goal.returns-clause-places
returns-clause-places c =
    taken_answer (select_of c.args.select.now) (map column_of c.args.columns.now) (map (λ row. row.now) c.args.rows.now) c.known-columns.result c.in_ok-places.places.items c.ordered.result
    c.known-columns.ensures.names c.in_ok-places.ensures.places c.ordered.ensures.places
