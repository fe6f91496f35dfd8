use Rattle.std.proofs.Common.{◌≡◌, ℕ, zero, suc, ◌+◌, ◌<◌, ◌≤◌, List, get_or, inl, inr, subst, ap, ◌∙◌, arith, rules}
use Rattle.std.proofs.lemmas.Bool.Decides.{leb_tells}
use Rattle.std.specs.Fn.{Mut, Called}
use Rattle.std.specs.Array.{IsFromFnResultFrom}
use Rattle.records.proofs.decoding.bytes_at.Goals as goal

-- what calls that change nothing give, one after another
each_is : {F : Type 0} (g : Mut F (ℕ × Unit {0}) ℕ) (f : F) (h : ℕ → ℕ) (calls : (k y : ℕ) (q : F) → Called g f (k, tt) y q → (y ≡ h k) × (q ≡ f)) (ys : List ℕ) (i n : ℕ) → IsFromFnResultFrom g f ys i n → (k : ℕ) → i ≤ k → k < i + n → get_or ys k 0 ≡ h k
each_is g f h calls ys i zero r k low high = absurd (omega arith)
each_is g f h calls ys i (suc n) r k low high =
    let one = calls i r.1 r.0 r.3 in
    elim (leb_tells k i) [
      | inl t ↦ (let e : k ≡ i = omega arith in ap (λ j. get_or ys j 0) e ∙ r.2.1 0 ∙ one.0 ∙ ap h (omega arith))
      | inr t ↦ each_is g f h calls ys (i + 1) n (subst (λ q. IsFromFnResultFrom g q ys (i + 1) n) one.1 r.4) k (omega arith) (omega arith)
    ]

pub returns : goal.returns
returns g c k h = each_is _ _ (λ j. get_or c.args.body.now (c.args.at + j) 0) (λ j y q called. search rules) c.from_fn.result 0 g.row.N c.from_fn.ensures.items.each k (omega arith) (omega arith)
