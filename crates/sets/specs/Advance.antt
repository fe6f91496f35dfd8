-- One call of an advance, over what a search has still to come: it takes items off the front until a set, the end of its
-- allowance, or the end of the trace. The items taken are its steps.
use Rattle.std.specs.Prelude.{ℕ, zero, suc, ◌+◌, List, [], ◌∷◌, ◌++◌, length, drop, Some, None}
use Rattle.sets.specs.Trace.{Trace}

-- how a call ends
pub data End : Type 0 where
  set : List ℕ → End
  spent : End
  finished : End

-- how a call ends, the steps that it tells, and what is to come after it
pub record Run : Type 0 where
  pub end : End
  pub steps : ℕ
  pub rest : Trace

-- with so many steps left of the allowance, and so many counted
abbrev pub run : Trace → ℕ → ℕ → Run
run [] left steps = record { end = finished; steps = steps; rest = [] }
run (None ∷ xs) zero steps = record { end = spent; steps = steps; rest = None ∷ xs }
run (Some ps ∷ xs) zero steps = record { end = spent; steps = steps; rest = Some ps ∷ xs }
run (None ∷ xs) (suc left) steps = run xs left (steps + 1)
run (Some ps ∷ xs) (suc left) steps = record { end = set ps; steps = steps + 1; rest = xs }

-- the page after the call: a set stands at its front, and nothing else alters it
abbrev pub page_of : End → List ℕ → List ℕ
page_of (set ps) page = ps ++ drop (length ps) page
page_of spent page = page
page_of finished page = page
