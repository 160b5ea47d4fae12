use Rattle.bmp_io.specs.BmpHeader.{pixels_high}
use Rattle.bmp_io.proofs.Sides.{pixels-few}
use Rattle.bmp_io.proofs.refusals.read_header.Goals as goal

pub returns-clause-whole : goal.returns-clause-whole
returns-clause-whole c =
    let s = c.args.sampling in
    let header = c.in_ok-header.header in
    record {
      bits = c.in_ok-check_fields.ensures.bits;
      size = c.in_ok-check_fields.ensures.size;
      colours = c.in_ok-check_fields.ensures.colours;
      palette = c.in_ok-check_palette.ensures.within;
      wide = pixels-few s.unit s.white s.most header.width c.in_ok-check_size.ensures.sides.across c.requires.scaled c.requires.narrow c.requires.few;
      high = pixels-few s.unit s.vwhite s.most (pixels_high header) c.in_ok-check_size.ensures.sides.down c.requires.scaled c.requires.short c.requires.few;
      rows = c.in_ok-check_rows.ensures.within;
    }
