-- The record's bytes, head and fields. Assumes nothing.
use Rattle.std.specs.Prelude.{◌≡◌, ◌+◌, ◌-◌, ◌*◌, length}
use Rattle.std.proofs.Common.{◌∙◌, arith}
use Rattle.recipe.specs.Records.{fields_of}
use Rattle.recipe.specs.laws.Records.{record_size}
use Rattle.recipe.proofs.Entries.{record_stored}
use Rattle.recipe.proofs.Record.write.Goals as goal

pub returns : goal.returns
returns c =
    let size : c.size.result - 2 ≡ 2 + 4 * length (fields_of c.args.self) = omega (arith, c.size.ensures, record_size c.args.self) in
    c.write_fields.ensures ∙ rw (c.put_u16-2.ensures, c.from.ensures, c.kind.ensures, c.put_u16.ensures, size) (record_stored c.args.self c.args.out.now c.requires)
