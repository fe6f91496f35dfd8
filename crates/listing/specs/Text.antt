-- Text in an output: what is written over it from a place on, and what does not fit.
use Rattle.std.specs.Prelude.{◌≡◌, ℕ, ◌+◌, ◌<◌, ◌≤◌, List, [], ◌∷◌, ◌++◌, length, replicate, ℤ, pos, negsuc, Some, None, Ok, Err, decimal, Option, Result}
use Rattle.rollfile.specs.Writing.{over}
use Rattle.roll.specs.declared.refusal.Refusal.{Refusal}
use Rattle.roll.specs.declared.refusal.Refusal.TheVariants.{TooLong}
use Rattle.std.specs.List.{flat_map}
use Rattle.listing.specs.declared.text.Text.{Text}

-- a blank and a number in decimal
abbrev pub field : ℕ → List ℕ
field n = 32 ∷ decimal n

-- a line: its letter, a field for each number, and the byte that ends it
abbrev pub line : ℕ → List ℕ → List ℕ
line letter ns = letter ∷ (flat_map field ns ++ 10 ∷ [])

-- bs was written over the output behind what was written so far; or it does not fit
abbrev pub Wrote : Text → List ℕ → Option (Unit {0}) → Text → Type 0
Wrote was bs None is = length was.out.now < was.at + length bs
Wrote was bs (Some u) is = (is.at ≡ was.at + length bs) × (is.out.now ≡ over was.out.now was.at bs)

-- bs is put into a text: the answer r, and how the text is then, over the same output
pub record Puts (was : Text) (bs : List ℕ) (r : Option (Unit {0})) (is : Text) : Type 0 where
  pub lent : is.out.ghost_name ≡ was.out.ghost_name
  pub length_same : length is.out.now ≡ length was.out.now
  pub written : Wrote was bs r is

-- some bytes are put into a text, or do not fit
abbrev pub Writes : Text → Option (Unit {0}) → Text → Type 0
Writes was None is = Unit {0}
Writes was (Some u) is = (bs : List ℕ) × Puts was bs (Some tt) is

-- a listing stands at the front of the output and its length is told, and what is behind it stays; or it does not fit, and the
-- whole output is zero
abbrev pub Lists : List ℕ → Result ℕ Refusal → List ℕ → Type 0
Lists out (Ok n) after = (bs : List ℕ) × (n ≡ length bs) × (n ≤ length out) × (after ≡ over out 0 bs)
Lists out (Err e) after = (e ≡ TooLong) × (after ≡ replicate (length out) 0)

-- the same, told as a number: the length of the listing, or -15
abbrev pub Told : List ℕ → ℤ → List ℕ → Type 0
Told out (pos n) after = Lists out (Ok n) after
Told out (negsuc k) after = (k ≡ 14) × (after ≡ replicate (length out) 0)
