use Rattle.std.proofs.Common.{[], ◌∷◌}
use Rattle.std.specs.Option.{option_map_or}
use Rattle.sql_trees.specs.Statements.{create_of, drop_of, select_of, stmt_of, Create, Selects}
use Rattle.session_machine.specs.Statements.{drop_tables, fails, level_set}
use Rattle.session_machine.specs.Running.{at_once, fault_in, run_in}
use Rattle.session_machine.specs.Inner.Statements.{begin_in}
use Rattle.session_statements.proofs.Alone.{begin_over, constant_over, create_over, drop_over, level_over}
use Rattle.session_statements.proofs.Kept.{over_all, over_keeps}
use Rattle.session_statements.proofs.run.run_open.Goals as goal

pub returns-in-Begin-clause-kept : goal.returns-in-Begin-clause-kept
returns-in-Begin-clause-kept g c =
    let db = c.args.db.now in
    let t = c.args.by.now in
    over_keeps db c.begin_again.new.db (stmt_of c.args.stmt.now) (begin_in db t c.in-Begin.level) c.begin_again.result (begin_over db t c.in-Begin.level) c.begin_again.ensures

pub returns-in-SetTransaction-clause-kept : goal.returns-in-SetTransaction-clause-kept
returns-in-SetTransaction-clause-kept g c =
    let db = c.args.db.now in
    let t = c.args.by.now in
    over_keeps db c.set_level.new.db (stmt_of c.args.stmt.now) (level_set db t t.explicit c.in-SetTransaction.level) c.set_level.result (level_over db t t.explicit c.in-SetTransaction.level) c.set_level.ensures

pub returns-in-CreateTable-clause-did : goal.returns-in-CreateTable-clause-did
returns-in-CreateTable-clause-did g c = rw c.in-CreateTable.is (c.create.ensures.did c.args.around.now)

pub returns-in-CreateTable-clause-kept : goal.returns-in-CreateTable-clause-kept
returns-in-CreateTable-clause-kept g c =
    let db = c.args.db.now in
    let t = c.args.by.now in
    let made = create_of c.in-CreateTable.made in
    over_all db c.create.new.db (stmt_of c.args.stmt.now) (run_in db t c.args.around.now (Create made)) c.create.result (create_over db t c.args.around.now made) (c.create.ensures.did c.args.around.now)

pub returns-in-DropTable-clause-kept : goal.returns-in-DropTable-clause-kept
returns-in-DropTable-clause-kept g c =
    let db = c.args.db.now in
    let t = c.args.by.now in
    let d = drop_of c.in-DropTable.drop in
    over_all db c.drop_tables.new.db (stmt_of c.args.stmt.now) (drop_tables db t d.if_exists d.names) c.drop_tables.result (drop_over db t d.if_exists d.names) c.drop_tables.ensures.did

pub returns-in-None-clause-kept : goal.returns-in-None-clause-kept
returns-in-None-clause-kept g c =
    let db = c.args.db.now in
    let t = c.args.by.now in
    let s = select_of c.in-Select.select in
    over_all db c.select_constant.new.db (stmt_of c.args.stmt.now) (option_map_or (fails db t) (fault_in [] (Selects s)) (at_once db t [] ([] ∷ []) (Selects s))) c.select_constant.result
    (constant_over db t s) c.select_constant.ensures.did
