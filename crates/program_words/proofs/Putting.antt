-- What a sink took, where it has not failed, and texts that go out one behind the other.
use Rattle.std.proofs.Common.{◌≡◌, ◌∙◌, ◌<◌, ◌+◌, ℕ, zero, suc, Bool, true, false, List, [], ◌∷◌, ◌++◌, length, get_or, map, take, drop, Option, Some, None, Result, Ok, Err, is_err, refl, ap, sym, subst, append_assoc, arith}
use Rattle.std.proofs.lemmas.List.{take_more, map-append, append-nil}
use Rattle.std.proofs.lemmas.List.Folds.{concat-append}
use Rattle.std.specs.List.{concat}
use Rattle.std.specs.Prelude.{OnErr, OnOk}
use Rattle.std.specs.Bool.{OnFalse}
use Rattle.std.specs.Io.KnownBytes.{Appends}
use Rattle.iso_lexer.specs.Devices.{PutsFront}
use Rattle.iso_lexer.specs.declared.whole.ReadFault.{ReadFault}
use Rattle.iso_lexer.specs.declared.whole.ReadFault.TheVariants.{Memory, Device}
use Rattle.iso_lexer.proofs.Writing.{appends_more, front_of_piece}
use Rattle.spec_files.specs.Faults.{read_fault}
use Rattle.program_words.specs.Shell.{Took}
use Rattle.program_words.specs.Terminal.{FailsFirst}

put_on_false : (b : Bool) (A : Type 0) → A → OnFalse b A
put_on_false true A a = tt
put_on_false false A a = a

whole_of : {T E : Type 0} (failed : Bool) (A : Type 0) (r : Result T E) → OnOk r A → OnErr r (failed ≡ true) → OnFalse failed A
whole_of failed A (Ok x) put fails = put_on_false failed A put
whole_of failed A (Err x) put fails = subst (λ (b : Bool). OnFalse b A) (sym fails) tt

-- a call put the text, or a front of it where it says that the sink has failed
pub took : {T E : Type 0} (failed : Bool) (old new : Option (List ℕ)) (text : List ℕ) (r : Result T E)
    → PutsFront old new text → OnOk r (Appends old new text) → OnErr r (failed ≡ true) → Took failed old new text
took failed old new text r front put fails = record { front = front; whole = whole_of failed (Appends old new text) r put fails }

pub fails_so : {T E : Type 0} (failed : Bool) (r : Result T E) → failed ≡ is_err r → OnErr r (failed ≡ true)
fails_so failed (Ok x) e = tt
fails_so failed (Err x) e = e

-- what an answer that is no fault says
pub on_ok : {T E : Type 0} (r : Result T E) (A : Type 0) → is_err r ≡ false → OnOk r A → A
on_ok (Ok x) A e a = a
on_ok (Err x) A e a = absurd (let it : true ≡ false = e in cc)

pub ok_with : {T E A B : Type 0} (r : Result T E) → (A → B) → OnOk r A → OnOk r B
ok_with (Ok x) f a = f a
ok_with (Err x) f a = tt

-- a text, and a front of what comes behind it
pub front_behind : (a b c : Option (List ℕ)) (text more : List ℕ) → Appends a b text → PutsFront b c more → PutsFront a c (text ++ more)
front_behind a b c text more put p = record {
  front = text ++ p.front;
  rest = p.rest;
  begins = ap (λ (l : List ℕ). text ++ l) p.begins ∙ sym (append_assoc text p.front p.rest);
  went_out = appends_more a b c text p.front put p.went_out;
}

pub nothing_appended : (a : Option (List ℕ)) (text : List ℕ) → text ≡ [] → Appends a a text
nothing_appended None text none = tt
nothing_appended (Some x) text none = rw (none) (sym (append-nil x))

-- reading has not failed where it gave a file
pub well_read : {T E : Type 0} (failed : Bool) (x : T) (e : E) → (failed ≡ true → Ok x ≡ Err e) → failed ≡ false
well_read true x e is = absurd (let it : Ok x ≡ Err e = is refl in cc)
well_read false x e is = refl

-- a file that isn't read is told of before any file is there
pub fails_first : (failed : Bool) (f : ReadFault) → (f ≡ Device → failed ≡ true) → (failed ≡ true → f ≡ Device) → FailsFirst failed (read_fault f)
fails_first true Memory of_device to_device = absurd (let it : Memory ≡ Device = to_device refl in cc)
fails_first false Memory of_device to_device = refl
fails_first failed Device of_device to_device = of_device refl

-- what stands before a piece, the piece, and what stands behind it
pub pieces_at : {X : Type 0} (f : X → List ℕ) (xs : List X) (i : ℕ) (d : X) → i < length xs
    → concat (map f xs) ≡ concat (map f (take i xs)) ++ (f (get_or xs i d) ++ concat (map f (drop (suc i) xs)))
pieces_at f [] i d lt = absurd (omega arith)
pieces_at f (x ∷ xs) zero d lt = refl
pieces_at f (x ∷ xs) (suc i) d lt = ap (λ (l : List ℕ). f x ++ l) (pieces_at f xs i d (omega arith)) ∙ sym (append_assoc (f x) (concat (map f (take i xs))) (f (get_or xs i d) ++ concat (map f (drop (suc i) xs))))

-- a front of a piece, behind the pieces before it
pub front_at : {X : Type 0} (f : X → List ℕ) (xs : List X) (i : ℕ) (d : X) (a b c : Option (List ℕ)) (piece : List ℕ) → i < length xs → piece ≡ f (get_or xs i d)
    → Appends a b (concat (map f (take i xs))) → PutsFront b c piece → PutsFront a c (concat (map f xs))
front_at f xs i d a b c piece lt is put p =
    let rest = concat (map f (drop (suc i) xs)) in
    subst (PutsFront a c) (ap (λ (l : List ℕ). concat (map f (take i xs)) ++ (l ++ rest)) is ∙ sym (pieces_at f xs i d lt))
    (front_behind a b c (concat (map f (take i xs))) (piece ++ rest) put (front_of_piece b c piece rest (piece ++ rest) refl p))

-- one piece more
pub more_out : {X : Type 0} (f : X → List ℕ) (xs : List X) (i : ℕ) (d : X) (a b c : Option (List ℕ)) (piece : List ℕ) → i < length xs → piece ≡ f (get_or xs i d)
    → Appends a b (concat (map f (take i xs))) → Appends b c piece → Appends a c (concat (map f (take (i + 1) xs)))
more_out f xs i d a b c piece lt is put more = rw (take_more xs i d lt, map-append, concat-append, append-nil, ← is) (appends_more a b c (concat (map f (take i xs))) piece put more)
