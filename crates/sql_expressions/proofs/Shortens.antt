-- What is read takes a token at least.
use Rattle.std.proofs.Common.{◌≡◌, ℕ, ◌<◌, length, ap, arith, length-append}
use Rattle.std.specs.Prelude.{Ok}
use Rattle.sql_trees.specs.Tokens.{Tokens}
use Rattle.sql_expressions.specs.declared.level.Opened.{Opened}
use Rattle.sql_expressions.specs.Reading.{Part, expr_at}
use Rattle.sql_expressions.specs.Inner.Pieces.{Found, inside}
use Rattle.sql_expressions.proofs.Levels.{opens_sound, expr_sound}

pub shortens : (last room place : ℕ) (level : Opened) (ts : Tokens) (f : Found) → inside last room level place ts ≡ Ok f → length f.rest < length ts
shortens last room place level ts f e =
    let k = opens_sound last room level place ts f e in
    omega (arith, ap length k.2.whole, length-append k.2.front f.rest, k.2.some)

pub expr_shortens : (last : ℕ) (ts : Tokens) (f : Part × Tokens) → expr_at last ts ≡ Ok f → length f.1 < length ts
expr_shortens last ts f e =
    let k = expr_sound last ts f e in
    omega (arith, ap length k.whole, length-append k.front f.1, k.some)
