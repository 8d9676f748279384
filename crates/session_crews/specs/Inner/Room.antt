-- Room that was made before.
use Rattle.std.specs.Prelude.{◌≡◌, ◌≤◌, ℕ, [], vec_len, vec_capacity}
use Rattle.std.specs.Global.{Vec}

-- the list is empty, with room for so many
pub record IsRoomFor {X : Type 0} (count : ℕ) (room : Vec X) : Type 0 where
  pub empty : room.items ≡ []
  pub long : vec_len room ≡ 0
  pub wide : count ≤ vec_capacity room
