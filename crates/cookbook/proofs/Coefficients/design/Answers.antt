use Rattle.std.proofs.Common.{◌≡◌, true, false}
use Rattle.cookbook.specs.Cookbook.{coefficients_of, design_allowed, design_verdict, design_answer}
use Rattle.cookbook.proofs.Coefficients.design.Goals as goal
use Rattle.cookbook.proofs.Coefficients.design.Goals.{else-allowed-via-then-allowed+else-gain_allowed, else-allowed-via-else-allowed}

module _ (c : goal.After-normalise) where
  is_allowed : design_allowed c.args.kind c.args.rate c.args.sine c.args.cosine c.args.a ≡ true
  unfolding design_allowed
  is_allowed = rw (← c.settings-f0.ensures.frequency, ← c.settings-f0.ensures.quality, ← c.allowed.ensures, c.if-allowed.true, ← c.gain_allowed.ensures) c.if-gain_allowed.true

  coefficients : c.normalise.result ≡ coefficients_of c.args.kind c.args.sine c.args.cosine c.args.a
  unfolding coefficients_of
  coefficients = rw (← c.settings-f0.ensures.quality, ← c.alpha.ensures, ← c.section-section.ensures) c.normalise.ensures

refused : (c : goal.Joined-else-allowed) → design_allowed c.args.kind c.args.rate c.args.sine c.args.cosine c.args.a ≡ false
unfolding design_allowed
refused c = elim c.else-allowed.branch [
  | else-allowed-via-then-allowed+else-gain_allowed w ↦ rw (← c.settings-f0.ensures.frequency, ← c.settings-f0.ensures.quality, ← c.allowed.ensures, w.if-allowed.true, ← w.gain_allowed.ensures) w.if-gain_allowed.false
  | else-allowed-via-else-allowed w ↦ rw (← c.settings-f0.ensures.frequency, ← c.settings-f0.ensures.quality, ← c.allowed.ensures, w.if-allowed.false)
]

pub returns-then-gain_allowed-clause-value : goal.returns-then-gain_allowed-clause-value
unfolding design_answer
returns-then-gain_allowed-clause-value c = rw (is_allowed c, coefficients c)

pub returns-then-gain_allowed-clause-told : goal.returns-then-gain_allowed-clause-told
unfolding design_verdict
returns-then-gain_allowed-clause-told c = rw (is_allowed c, coefficients c)

pub returns-clause-value : goal.returns-clause-value
unfolding design_answer
returns-clause-value c = rw (refused c)

pub returns-clause-told : goal.returns-clause-told
unfolding design_verdict
returns-clause-told c = rw (refused c)
