use Rattle.std.proofs.Common.{rules, ◌∙◌, sym, ap, subst}
use Rattle.row_versions.specs.declared.write.Fate.TheVariants.{Open}
use Rattle.row_versions.specs.Log.{fate_of}
use Rattle.row_versions.proofs.Gets.{get-append_last}
use Rattle.session_machine.specs.declared.session.OpenTransaction.{OpenTransaction}
use Rattle.session_machine.specs.Tables.{Database}
use Rattle.session_machine.specs.Inner.Statements.{begun}
use Rattle.session_statements.specs.Inner.Keeping.{IsOrderly}
use Rattle.std.specs.Prelude.{IfOk}
use Rattle.sql_trees.specs.Statements.{stmt_of}
use Rattle.session_statements.specs.Targets.{AreKept}
use Rattle.session_statements.proofs.Kept.{kept_since_begun}
use Rattle.session_statements.proofs.run.run_first.Goals as goal

pub run_open-requires : goal.run_open-requires
run_open-requires g c = record {
  running = record {
    opened = ap (λ (d : Database). fate_of d.content.fates c.in_ok-open.open.tx) c.in_ok-open.ensures.begun
        ∙ ap (λ (t : OpenTransaction). fate_of (begun c.args.db.now).content.fates t.tx) c.in_ok-open.ensures.fresh
        ∙ get-append_last c.args.db.now.content.fates Open;
    room = search rules;
    orderly = subst (λ (db : Database). IsOrderly db) (sym c.in_ok-open.ensures.begun) c.requires.orderly;
  };
}

pub returns-clause-kept : goal.returns-clause-kept
returns-clause-kept g c =
    let db = c.args.db.now in
    let stmt = stmt_of c.args.stmt.now in
    kept_since_begun db stmt c.run_open.result
    (subst (λ (x : Database). IfOk c.run_open.result (λ did. AreKept x stmt did.statement did.targets)) c.in_ok-open.ensures.begun c.run_open.ensures.kept)
