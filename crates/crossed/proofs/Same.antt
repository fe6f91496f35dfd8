-- Two rolls of as many columns over one ledger are the same roll.
use Rattle.std.proofs.Common.{◌≡◌, sym, ap, subst}
use Rattle.std.proofs.Math.Logic.{∥∥₁_prop}
use Rattle.roll.specs.Cells.{held}
use Rattle.roll.specs.declared.ledger.Ledger.{Ledger}
use Rattle.crossed.specs.declared.entries.Amounts.{Amounts}
use Rattle.crossed.specs.declared.rolls.Roll.{Roll}
use Rattle.crossed.specs.Reachable.{Reachable}

pub same_roll : (r : Roll) (b : Ledger Amounts) (reached : ∥ Reachable r.columns (held b) ∥₁) → b ≡ r.ledger → ◌≡◌ {A = Roll} (record { ledger = b; columns = r.columns; reached = reached }) r
same_roll r b reached e =
    subst (λ c. (q : ∥ Reachable r.columns (held c) ∥₁) → ◌≡◌ {A = Roll} (record { ledger = c; columns = r.columns; reached = q }) r) (sym e)
    (λ q. ap (λ z. record { ledger = r.ledger; columns = r.columns; reached = z }) (∥∥₁_prop q r.reached)) reached
