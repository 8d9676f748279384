use Rattle.session_laws.proofs.Sound.{stays_sound}
use Rattle.session_laws.proofs.laws.stays_sound.Goals as goal

pub returns : goal.returns
returns c = stays_sound
