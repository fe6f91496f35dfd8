-- Bytes written over bytes.
use Rattle.std.proofs.Common.{◌≡◌, ℕ, ◌+◌, ◌*◌, ◌<◌, ◌≤◌, List, [], ◌∷◌, ◌++◌, length, get_or, take, drop, sym, refl, ap, ◌∙◌, subst, arith}
use Rattle.std.specs.List.{flat_map}
use Rattle.std.proofs.lemmas.Grind.{common_steps}
use Rattle.std.proofs.lemmas.List.{append_assoc, length-append, length-take-le, take_at, drop_at, drop-drop, take_more, flat_map_more}
use Rattle.crossed.specs.Entries.{Entry}
use Rattle.crossed.specs.declared.entries.Columns.{Columns}
use Rattle.records.specs.Bytes.{entry_bytes, heading_bytes}
use Rattle.rollfile.specs.Files.{writes}
use Rattle.rollfile.specs.declared.encoding.Writer.{Writer}
use Rattle.rollfile.specs.Writing.{over, Puts}

-- what is written over keeps its length
pub length_over : (out : List ℕ) (at : ℕ) (bs : List ℕ) → at + length bs ≤ length out → length (over out at bs) ≡ length out
length_over out at bs h = grind (arith, common_steps)

-- one after another
pub over-over : (out : List ℕ) (at at' : ℕ) (xs ys : List ℕ) → at' ≡ at + length xs → at + length xs + length ys ≤ length out → over (over out at xs) at' ys ≡ over out at (xs ++ ys)
over-over out at at' xs ys e h =
    let p : List ℕ = take at out ++ xs in
    let lp : length p ≡ at' = length-append (take at out) xs ∙ omega (arith, length-take-le at out (omega arith)) in
    let g : over out at xs ≡ p ++ drop (at + length xs) out = sym (append_assoc (take at out) xs (drop (at + length xs) out)) in
    let t : take at' (over out at xs) ≡ p = ap (take at') g ∙ take_at p (drop (at + length xs) out) at' lp in
    let u : drop (at' + length ys) (over out at xs) ≡ drop (at + length (xs ++ ys)) out =
    ap (drop (at' + length ys)) g
    ∙ sym (drop-drop (length ys) at' (p ++ drop (at + length xs) out))
    ∙ ap (drop (length ys)) (drop_at p (drop (at + length xs) out) at' lp)
    ∙ drop-drop (length ys) (at + length xs) out
    ∙ ap (λ n. drop n out) (omega (arith, length-append xs ys)) in
    ap (λ z. z ++ (ys ++ drop (at' + length ys) (over out at xs))) t
    ∙ ap (λ z. p ++ (ys ++ z)) u
    ∙ append_assoc (take at out) xs (ys ++ drop (at + length (xs ++ ys)) out)
    ∙ ap (λ z. take at out ++ z) (sym (append_assoc xs ys (drop (at + length (xs ++ ys)) out)))

-- an entry has 37 bytes
pub length-entries : (xs : List Entry) → length (flat_map entry_bytes xs) ≡ 37 * length xs
length-entries [] = refl
length-entries (x ∷ xs) = length-append (entry_bytes x) (flat_map entry_bytes xs) ∙ omega (arith, length-entries xs)

-- the file with so many of the entries
pub length-writes : (d : Columns) (xs : List Entry) → length (writes d xs) ≡ 2 + 37 * length xs
length-writes d xs = omega (arith, length-entries xs)

-- one entry more
pub entries_more : {was is : Writer} (out : List ℕ) (d : Columns) (es : List Entry) (i : ℕ) (e : Entry) → i < length es → e ≡ get_or es i e → 2 + 37 * length es ≤ length out → (was.at ≡ 2 + 37 * i) × (was.out.now ≡ over out 0 (writes d (take i es))) → Puts was (entry_bytes e) is → (is.at ≡ 2 + 37 * (i + 1)) × (is.out.now ≡ over out 0 (writes d (take (i + 1) es)))
entries_more {was} {is} out d es i e h r l so p =
    let n : length (writes d (take i es)) ≡ 2 + 37 * i = length-writes d (take i es) ∙ ap (λ k. 2 + 37 * k) (length-take-le i es (omega arith)) in
    let more : flat_map entry_bytes (take i es) ++ entry_bytes e ≡ flat_map entry_bytes (take (i + 1) es) = flat_map_more entry_bytes [] (take i es) e ∙ ap (flat_map entry_bytes) (ap (λ z. take i es ++ (z ∷ [])) r ∙ sym (take_more es i e h)) in (
      p.place ∙ omega (arith, so.0),
      p.output
          ∙ ap (λ z. over z was.at (entry_bytes e)) so.1
          ∙ over-over out 0 was.at (writes d (take i es)) (entry_bytes e) (omega arith) (omega arith)
          ∙ ap (λ bs. over out 0 (heading_bytes d ++ bs)) more,
    )

-- the bytes by another name
pub puts_same : {was is : Writer} {xs ys : List ℕ} → Puts was xs is → xs ≡ ys → Puts was ys is
puts_same {was} {is} p e = subst (λ zs. Puts was zs is) e p

-- bytes, and bytes behind them
pub puts_then : {was mid is : Writer} {xs ys : List ℕ} → Puts was xs mid → Puts mid ys is → Puts was (xs ++ ys) is
puts_then {was} {mid} {is} {xs} {ys} p q =
    let n : length mid.out.now ≡ length was.out.now = ap length p.output ∙ length_over was.out.now was.at xs p.room in
    let h : was.at + length xs + length ys ≤ length was.out.now = omega (arith, q.room, p.place) in
    record {
      output = q.output ∙ ap (λ z. over z mid.at ys) p.output ∙ over-over was.out.now was.at mid.at xs ys p.place h;
      place = q.place ∙ omega (arith, length-append xs ys, p.place);
      room = omega (arith, length-append xs ys);
      same_reference = q.same_reference ∙ p.same_reference;
    }
