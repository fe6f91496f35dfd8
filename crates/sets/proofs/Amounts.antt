-- The laws of amounts side by side, and what raising does to them, column by column.
use Rattle.std.proofs.Common.{◌≡◌, ℕ, zero, suc, ◌+◌, ◌≤◌, true, false, ◌&&◌, [], ◌∷◌, length, ℤ, pos, ◌+ℤ◌, ◌-ℤ◌, ◌*ℤ◌, ◌≤ℤ◌, refl, ap, ap₂, arith}
use lib.Signed.{le_z}
use Rattle.std.specs.Int.{int_max}
use Rattle.std.proofs.lemmas.Int.{ints, clamps}
use Rattle.std.proofs.lemmas.Bool.{both_ways, and_from, and_parts, eqb-true}
use Rattle.measure.specs.Algebra.{Row, Laws, Own, NotAbove}
use Rattle.measure.specs.CentsLaws.{cents_laws}
use Rattle.measure.specs.JoinedLaws.{joined_laws}
use Rattle.sets.specs.Crossed.{amounts, part_by_part}
use Rattle.sets.specs.Crossings.{cell}

-- r times the fall more, in each column
abbrev pub raised : Row → ℕ → Row → Row
raised α r x = part_by_part (λ fall v. v +ℤ fall *ℤ pos r) α x

pub amounts_laws : (k : ℕ) → Laws (amounts k)
amounts_laws zero = cents_laws
amounts_laws (suc k) = joined_laws cents_laws (amounts_laws k)

-- a row of k + 1 numbers
pub data Wide : ℕ → Row → Type 0 where
  one : (v : ℤ) → Wide zero (v ∷ [])
  more : {k : ℕ} {x : Row} (v : ℤ) → Wide k x → Wide (suc k) (v ∷ x)

pub own_wide : (k : ℕ) (x : Row) → Own (amounts k) x → Wide k x
own_wide zero [] o = absurd (both_ways false refl o)
own_wide zero (v ∷ []) o = one v
own_wide zero (v ∷ w ∷ x) o = absurd (omega (arith, eqb-true (length (v ∷ w ∷ x)) 1 o))
own_wide (suc k) [] o = absurd (both_ways false refl o)
own_wide (suc k) (v ∷ x) o = more v (own_wide k x o)

pub wide_own : {k : ℕ} {x : Row} → Wide k x → Own (amounts k) x
wide_own (one v) = refl
wide_own (more v w) = wide_own w

pub part_wide : (f : ℤ → ℤ → ℤ) {k : ℕ} {x y : Row} → Wide k x → Wide k y → Wide k (part_by_part f x y)
part_wide f (one v) (one w) = one (f v w)
part_wide f (more v a) (more w b) = more (f v w) (part_wide f a b)

pub nothing_wide : (k : ℕ) → Wide k (amounts k).nothing
nothing_wide k = own_wide k (amounts k).nothing (amounts_laws k).nothing_own

-- one column
pub le_test : (v w : ℤ) → v ≤ℤ w → le_z v w ≡ true
le_test v w h = grind (arith, ints)

column_plus : (m v w : ℤ) (p q : ℕ) → (v +ℤ m *ℤ pos p) +ℤ (w +ℤ m *ℤ pos q) ≡ (v +ℤ w) +ℤ m *ℤ pos (p + q)
column_plus m v w p q = omega (arith, ints)

column_nothing : (m : ℤ) → pos 0 +ℤ m *ℤ pos 0 ≡ pos 0
column_nothing m = omega (arith, ints)

column_order : (m v w : ℤ) (p : ℕ) → le_z (v +ℤ m *ℤ pos p) (w +ℤ m *ℤ pos p) ≡ le_z v w
column_order m v w p = grind (arith, ints)

column_fall : (m v w s : ℤ) (p : ℕ) → le_z (int_max (v -ℤ w) s) m ≡ true → le_z (v +ℤ m *ℤ pos p) (w +ℤ m *ℤ pos (suc p)) ≡ true
column_fall m v w s p h = le_test (v +ℤ m *ℤ pos p) (w +ℤ m *ℤ pos (suc p)) (omega (arith, ints, clamps))

column_rest : (m v s : ℤ) → le_z (int_max v s) m ≡ true → le_z s m ≡ true
column_rest m v s h = le_test s m (omega (arith, ints, clamps))

-- raised rows add, and their multiples add too
pub raised-plus : {k : ℕ} {α x y : Row} → Wide k α → Wide k x → Wide k y → (p q : ℕ) → (amounts k).plus (raised α p x) (raised α q y) ≡ raised α (p + q) ((amounts k).plus x y)
raised-plus (one m) (one v) (one w) p q = ap (λ z. z ∷ []) (column_plus m v w p q)
raised-plus (more m a) (more v b) (more w c) p q = ap₂ (λ z zs. z ∷ zs) (column_plus m v w p q) (raised-plus a b c p q)

pub raised-nothing : {k : ℕ} {α : Row} → Wide k α → raised α 0 (amounts k).nothing ≡ (amounts k).nothing
raised-nothing (one m) = ap (λ z. z ∷ []) (column_nothing m)
raised-nothing (more m a) = ap₂ (λ z zs. z ∷ zs) (column_nothing m) (raised-nothing a)

-- rows raised alike stand as before
pub raised_order : {k : ℕ} {α x y : Row} → Wide k α → Wide k x → Wide k y → (p : ℕ) → (amounts k).not_above (raised α p x) (raised α p y) ≡ (amounts k).not_above x y
raised_order (one m) (one v) (one w) p = column_order m v w p
raised_order (more m a) (more v b) (more w c) p = ap₂ (λ s t. s && t) (column_order m v w p) (raised_order a b c p)

-- a row raised once more than the one before it is not below that one, if their fall is not above α
pub raised-climbs : {k : ℕ} {α x y s : Row} → Wide k α → Wide k x → Wide k y → Wide k s → (p : ℕ) → NotAbove (amounts k) (part_by_part int_max (part_by_part ◌-ℤ◌ x y) s) α → NotAbove (amounts k) (raised α p x) (raised α (suc p) y)
raised-climbs (one m) (one v) (one w) (one s) p h = column_fall m v w s p h
raised-climbs (more {k = k} {x = α} m a) (more {x = x} v b) (more {x = y} w c) (more {x = t} s d) p h =
    let parts = and_parts (le_z (int_max (v -ℤ w) s) m) ((amounts k).not_above (part_by_part int_max (part_by_part ◌-ℤ◌ x y) t) α) h in
    and_from (le_z (v +ℤ m *ℤ pos p) (w +ℤ m *ℤ pos (suc p))) ((amounts k).not_above (raised α p x) (raised α (suc p) y)) (column_fall m v w s p parts.0) (raised-climbs a b c d p parts.1)

-- what a larger fall is not above, a smaller one is not above either
pub steeper : {k : ℕ} {α x s : Row} → Wide k α → Wide k x → Wide k s → NotAbove (amounts k) (part_by_part int_max x s) α → NotAbove (amounts k) s α
steeper (one m) (one v) (one s) h = column_rest m v s h
steeper (more {k = k} {x = α} m a) (more {x = x} v b) (more {x = t} s d) h =
    let parts = and_parts (le_z (int_max v s) m) ((amounts k).not_above (part_by_part int_max x t) α) h in
    and_from (le_z s m) ((amounts k).not_above t α) (column_rest m v s parts.0) (steeper a b d parts.1)

-- a row of k + 1 numbers is a row of k + 1 amounts
pub length-own : (k : ℕ) (x : Row) → length x ≡ suc k → Own (amounts k) x
length-own zero [] e = absurd (omega arith)
length-own zero (v ∷ []) e = refl
length-own zero (v ∷ w ∷ x) e = absurd (omega arith)
length-own (suc k) [] e = absurd (omega arith)
length-own (suc k) (v ∷ x) e = length-own k x (omega arith)

-- what stands in column c
pub nothing_column : (k c : ℕ) → cell c (amounts k).nothing ≡ pos 0
nothing_column zero zero = refl
nothing_column zero (suc c) = refl
nothing_column (suc k) zero = refl
nothing_column (suc k) (suc c) = nothing_column k c

pub plus_column : {k : ℕ} {x y : Row} → Wide k x → Wide k y → (c : ℕ) → c ≤ k → cell c ((amounts k).plus x y) ≡ cell c x +ℤ cell c y
plus_column (one v) (one w) zero l = refl
plus_column (one v) (one w) (suc c) l = absurd (omega arith)
plus_column (more v a) (more w b) zero l = refl
plus_column (more v a) (more w b) (suc c) l = plus_column a b c (omega arith)

pub test_le : (v w : ℤ) → le_z v w ≡ true → v ≤ℤ w
test_le v w h = omega (arith, ints)

-- not above, and not above in each column
pub above_column : {k : ℕ} {x y : Row} → Wide k x → Wide k y → NotAbove (amounts k) x y → (c : ℕ) → c ≤ k → cell c x ≤ℤ cell c y
above_column (one v) (one w) h zero l = test_le v w h
above_column (one v) (one w) h (suc c) l = absurd (omega arith)
above_column (more {k = k} {x = x} v a) (more {x = y} w b) h zero l = test_le v w (and_parts (le_z v w) ((amounts k).not_above x y) h).0
above_column (more {k = k} {x = x} v a) (more {x = y} w b) h (suc c) l = above_column a b (and_parts (le_z v w) ((amounts k).not_above x y) h).1 c (omega arith)

pub column_above : {k : ℕ} {x y : Row} → Wide k x → Wide k y → ((c : ℕ) → c ≤ k → cell c x ≤ℤ cell c y) → NotAbove (amounts k) x y
column_above (one v) (one w) f = le_test v w (f 0 (omega arith))
column_above (more {k = k} {x = x} v a) (more {x = y} w b) f = and_from (le_z v w) ((amounts k).not_above x y) (le_test v w (f 0 (omega arith))) (column_above a b (λ c l. f (suc c) (omega arith)))
