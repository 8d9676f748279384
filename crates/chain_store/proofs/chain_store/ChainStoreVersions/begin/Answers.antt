use Rattle.chain_store.proofs.Linking.{links-after_begin}
use Rattle.chain_store.proofs.chain_store.ChainStoreVersions.begin.Goals as goal

pub invariant_of-self : goal.invariant_of-self
invariant_of-self c = λ kept. links-after_begin c.self.inside.list c.begin.new.self c.begin.result c.self.inside.links c.begin.ensures.ok c.begin.ensures.err (c.self.invariant kept)
