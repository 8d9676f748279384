use Rattle.wait_laws.proofs.KeyStops.{key_is_exact}
use Rattle.wait_laws.proofs.laws.key_is_exact.Goals as goal

pub returns : goal.returns
returns c = key_is_exact
