-- Two rolls over one ledger are the same roll.
use Rattle.std.proofs.Common.{◌≡◌, sym, ap, subst}
use Rattle.roll.specs.Cells.{held}
use Rattle.roll.specs.Books.{kind, Kept}
use Rattle.roll.specs.Props.{Kept-prop}
use Rattle.roll.specs.declared.ledger.Ledger.{Ledger}
use Rattle.roll.specs.declared.straight.Roll.{Roll}

pub same_roll : {M : Type 0} {m : _} (r : Roll M m) (b : Ledger M) (kept : Kept (kind m.algebra m.row m.span) (held b)) → b ≡ r.ledger → ◌≡◌ {A = Roll M m} (record { ledger = b; kept = kept }) r
same_roll {M} {m} r b kept e =
    subst (λ c. (q : Kept (kind m.algebra m.row m.span) (held c)) → ◌≡◌ {A = Roll M m} (record { ledger = c; kept = q }) r) (sym e)
    (λ q. ap (λ z. record { ledger = r.ledger; kept = z }) (Kept-prop (kind m.algebra m.row m.span) (held r.ledger) q r.kept)) kept
