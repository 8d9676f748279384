use Rattle.std.proofs.Common.{drop}
use Rattle.chain_store.proofs.Linking.{IsStruck}
use Rattle.chain_store.proofs.links.strike.Given as goal

-- the places from here on are struck
abbrev pub invariant-loop-index : goal.invariant-loop-index
invariant-loop-index l = IsStruck l.log l.fn.rows l.rows (drop l.index l.places)
