-- Truth tables.
use Rattle.std.proofs.Common.{◌≡◌, Bool, true, false, not, ◌&&◌, ◌||◌, refl}

pub or_nothing : (a : Bool) → (a || false) ≡ a
or_nothing true = refl
or_nothing false = refl

pub or_assoc : (a b c : Bool) → (a || (b || c)) ≡ ((a || b) || c)
or_assoc true b c = refl
or_assoc false b c = refl

pub and_swap : (a b : Bool) → (a && b) ≡ (b && a)
and_swap true true = refl
and_swap true false = refl
and_swap false true = refl
and_swap false false = refl

-- an element that is struck, and one that stays
pub struck_here : (b h m : Bool) → b ≡ m → (h && not m) ≡ ((b || h) && not m)
struck_here true true true e = refl
struck_here true false true e = refl
struck_here false true false e = refl
struck_here false false false e = refl
struck_here true h false e = cc
struck_here false h true e = cc

pub kept_here : (b h m : Bool) → (b ≡ true → m ≡ false) → (b || (h && not m)) ≡ ((b || h) && not m)
kept_here true h false e = refl
kept_here true h true e = let no = e refl in cc
kept_here false h m e = refl

-- what is left after one more is struck: was there, is this one, stands in the row, was struck later
pub struck_more : (h e r s : Bool) → (e ≡ true → r ≡ true) → ((h && not (s && r)) && not e) ≡ (h && not ((e || s) && r))
struck_more false e r s given = refl
struck_more true true true true given = refl
struck_more true true true false given = refl
struck_more true true false s given = let no = given refl in cc
struck_more true false true true given = refl
struck_more true false true false given = refl
struck_more true false false true given = refl
struck_more true false false false given = refl

-- in another row it was not there to be struck
pub struck_elsewhere : (h e r s : Bool) → (e ≡ true → r ≡ false) → (h && not (s && r)) ≡ (h && not ((e || s) && r))
struck_elsewhere false e r s given = refl
struck_elsewhere true true false true given = refl
struck_elsewhere true true false false given = refl
struck_elsewhere true true true s given = let no = given refl in cc
struck_elsewhere true false r s given = refl

-- of a row, rolled back, of the transaction
pub rolled_now : (a b t : Bool) → ((a && not b) && not (t && a)) ≡ (a && not (b || t))
rolled_now false b t = refl
rolled_now true true t = refl
rolled_now true false true = refl
rolled_now true false false = refl

pub noted_here : (a n : Bool) → (a && n) ≡ (n && (a && true))
noted_here true true = refl
noted_here true false = refl
noted_here false true = refl
noted_here false false = refl
