-- A biquad's fields stored one after the other. Assumes nothing.
use Rattle.std.proofs.Common.{◌∙◌}
use Rattle.recipe.proofs.Record.write_fields.Goals as goal

pub returns-in-Biquad : goal.returns-in-Biquad
returns-in-Biquad c =
    c.put_u32-in-Biquad-6.ensures
    ∙ rw (c.in-Biquad.is, c.put_u32-in-Biquad-5.ensures, c.put_u32-in-Biquad-4.ensures, c.put_u32-in-Biquad-3.ensures, c.put_u32-in-Biquad-2.ensures, c.put_u32-in-Biquad.ensures)
