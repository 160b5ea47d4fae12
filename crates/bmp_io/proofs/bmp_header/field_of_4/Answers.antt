use Rattle.std.proofs.Common.{ap, ◌∙◌}
use Rattle.std.proofs.lemmas.List.{take_rest}
use Rattle.byteorder.specs.Endian.{little_number}
use Rattle.bmp_io.specs.BmpHeader.{field_at}
use Rattle.bmp_io.proofs.bmp_header.field_of_4.Goals as goal

pub returns : goal.returns
unfolding field_at
returns c = c.read_u32.ensures ∙ ap (little_number 4) (take_rest c.args.bytes.now c.args.place)
