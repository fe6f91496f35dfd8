-- What stands on a roll is what calls can lead to: its entries can be entered one after another.
use Rattle.std.proofs.Common.{◌≡◌, ◌+◌, ◌<◌, ◌≤◌, false, List, [], ◌∷◌, ◌++◌, length, sym, refl, subst, arith}
use Rattle.std.specs.List.{All, AllByRecursion}
use Rattle.std.proofs.lemmas.List.Elements.{All-weaker, All-push, recursion_from_All, All-from_recursion}
use Rattle.std.proofs.lemmas.List.{length_push, append_assoc, append-nil}
use Rattle.std.proofs.lemmas.Bool.Decides.{nat_tests}
use Rattle.crossed.specs.declared.entries.Columns.{Columns}
use Rattle.crossed.specs.Entries.{Entry}
use Rattle.crossed.specs.Books.{numbered, put, entered}
use Rattle.crossed.specs.Reachable.{Reachable, by_open, by_enter, Rising, Admitted}
use Rattle.crossed.specs.Rolls.{AlwaysReached, standing}
use Rattle.crossed.proofs.Kept.{well_formed}

-- a number above all others does not stand
pub unnumbered : (e : Entry) (xs : List Entry) → AllByRecursion (λ y. y.number < e.number) xs → numbered e.number xs ≡ false
unnumbered e [] h = refl
unnumbered e (x ∷ xs) h = grind (arith, nat_tests, unnumbered e xs h.1)

-- its entry is put last
pub put_last : (e : Entry) (xs : List Entry) → AllByRecursion (λ y. y.number < e.number) xs → put e xs ≡ xs ++ (e ∷ [])
put_last e [] h = refl
put_last e (x ∷ xs) h = grind (arith, nat_tests, put_last e xs h.1)

entered_last : (d : Columns) (e : Entry) (xs : List Entry) → Admitted d e → AllByRecursion (λ y. y.number < e.number) xs → length xs < 120 → entered d 120 xs e ≡ xs ++ (e ∷ [])
entered_last d e xs g h l =
    let free = unnumbered e xs h in
    let last = put_last e xs h in
    grind (arith, nat_tests)

-- rising entries after others
after : (d : Columns) (rest xs : List Entry) → Reachable d xs → Rising rest → AllByRecursion (Admitted d) rest → All (λ y. AllByRecursion (λ e. y.number < e.number) rest) xs → length xs + length rest ≤ 120 → Reachable d (xs ++ rest)
after d [] xs r rise good below few = subst (Reachable d) (sym (append-nil xs)) r
after d (e ∷ es) xs r rise good below few =
    let under : AllByRecursion (λ y. y.number < e.number) xs = recursion_from_All (λ y. y.number < e.number) xs (All-weaker (λ y. AllByRecursion (λ e. y.number < e.number) (e ∷ es)) (λ y. y.number < e.number) (λ y h. h.0) xs below) in
    let next : All (λ y. AllByRecursion (λ e. y.number < e.number) es) (xs ++ (e ∷ [])) = All-push (λ y. AllByRecursion (λ e. y.number < e.number) es) xs e (All-weaker (λ y. AllByRecursion (λ e. y.number < e.number) (e ∷ es)) (λ y. AllByRecursion (λ e. y.number < e.number) es) (λ y h. h.1) xs below) rise.0 in
    let size = length_push xs e in
    let one = subst (Reachable d) (entered_last d e xs good.0 under (omega arith)) (by_enter 120 e good.0.0 r) in
    subst (Reachable d) (append_assoc xs (e ∷ []) es) (after d es (xs ++ (e ∷ [])) one rise.1 good.1 next (omega arith))

pub always_reached : AlwaysReached
always_reached r =
    let w = well_formed r in
    after r.columns (standing r) [] by_open w.0 w.1 (All-from_recursion _ [] tt) (omega (arith, w.2))
