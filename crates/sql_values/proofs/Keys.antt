-- One key further.
use Rattle.std.proofs.Common.{◌≡◌, ℕ, suc, ◌+◌, ◌-◌, ◌<◌, ◌∷◌, ap, arith}
use Rattle.std.specs.List.{range_with_len}

pub keys_left : (k n : ℕ) → k < n → range_with_len k (n - k) ≡ k ∷ range_with_len (k + 1) (n - (k + 1))
keys_left k n h =
    let step : n - k ≡ suc (n - (k + 1)) = omega arith in
    ap (range_with_len k) step
