-- Blocks may be shared by threads.
use denote.Ref.{NamedLft}
use denote.Param.Send.{IsSync, EachSync, recorded_sync, enum_sync, sendable}
use denote.Enum.Declared.{shape}
use Rattle.std.proofs.Crossing.{crosses}
use Rattle.iso_lexer.proofs.name.Name.TheSendSync.{the_sync as name_sync}
use Rattle.sql_trees.proofs.stmt.Lock.TheSendSync.{the_sync as lock_sync}
use Rattle.sql_trees.proofs.expr.Expr.TheLaws.TheKnot.{sync-Expr}
use Rattle.sql_trees.specs.contracts.expr.Expr as Expr
use Rattle.sql_trees.specs.contracts.expr.Agg as Agg
use Rattle.sql_trees.specs.contracts.stmt.Stmt as Stmt
use Rattle.sql_trees.specs.contracts.stmt.Item as Item
use Rattle.sql_trees.specs.contracts.stmt.OrderKey as OrderKey
use Rattle.sql_trees.specs.contracts.stmt.Select as Select
use Rattle.sql_trees.specs.contracts.stmt.Insert as Insert
use Rattle.sql_trees.specs.contracts.stmt.Update as Update
use Rattle.sql_trees.specs.contracts.stmt.Delete as Delete
use Rattle.sql_blocks.specs.contracts.block.Block as Block

expr_sync : (κ : NamedLft) → IsSync (Expr.the_row κ)
expr_sync κ = search (sendable, crosses, sync-Expr) depth 60 fits 10000

agg_sync : (κ : NamedLft) → IsSync (Agg.the_row κ)
agg_sync κ = search (sendable, crosses, sync-Expr) depth 60 fits 10000

item_sync : (κ : NamedLft) → IsSync (Item.the_row κ)
item_sync κ = search (sendable, crosses, sync-Expr, name_sync) depth 60 fits 10000

order_sync : (κ : NamedLft) → IsSync (OrderKey.the_row κ)
order_sync κ = search (sendable, crosses, sync-Expr) depth 60 fits 10000

select_sync : (κ : NamedLft) → IsSync (Select.the_row κ)
select_sync κ = search (sendable, crosses, name_sync, expr_sync, item_sync, order_sync, lock_sync) depth 60 fits 10000

insert_sync : (κ : NamedLft) → IsSync (Insert.the_row κ)
insert_sync κ = search (sendable, crosses, name_sync, expr_sync, item_sync) depth 60 fits 10000

update_sync : (κ : NamedLft) → IsSync (Update.the_row κ)
update_sync κ = search (sendable, crosses, name_sync, expr_sync, item_sync) depth 60 fits 10000

delete_sync : (κ : NamedLft) → IsSync (Delete.the_row κ)
delete_sync κ = search (sendable, crosses, expr_sync, item_sync) depth 60 fits 10000

stmt_sync : (κ : NamedLft) → IsSync (Stmt.the_row κ)
stmt_sync κ =
    let each : EachSync (shape (Stmt.the_type κ)).variants = (
      (search (sendable, crosses) depth 60 fits 10000, tt),
      (
        tt,
        (
          tt,
          (
            (search (sendable, crosses) depth 60 fits 10000, tt),
            (
              tt,
              (
                (search (sendable, crosses) depth 60 fits 10000, tt),
                (
                  (search (sendable, crosses) depth 60 fits 10000, tt),
                  (
                    (search (sendable, crosses, expr_sync, item_sync) depth 60 fits 10000, tt),
                    (
                      (search (sendable, crosses, expr_sync, item_sync) depth 60 fits 10000, tt),
                      (
                        (search (sendable, crosses, expr_sync, item_sync) depth 60 fits 10000, tt),
                        (
                          (search (sendable, crosses, expr_sync, item_sync, order_sync, lock_sync) depth 60 fits 10000, tt),
                          tt,
                        ),
                      ),
                    ),
                  ),
                ),
              ),
            ),
          ),
        ),
      ),
    ) in
    recorded_sync _ _ _ ((Stmt.the_type κ).to_one) (enum_sync (shape (Stmt.the_type κ)) each)

pub block_sync : (κ : NamedLft) → IsSync (Block.the_row κ)
block_sync κ = search (sendable, crosses, stmt_sync) depth 60 fits 10000
