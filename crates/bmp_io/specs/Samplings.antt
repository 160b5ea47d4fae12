-- Which pixels of a BMP are looked at.
use Rattle.std.specs.Prelude.{◌≤◌, ◌<◌}
use Rattle.bar_base.specs.Paint.{unit_of}
use Rattle.bar_base.specs.declared.paint.Paint.{Paint}
use Rattle.bmp_io.specs.declared.sampling.Sampling.{Sampling}

-- the pixel in the middle of each module of a symbol of at most 151 by 151 modules that was painted so
abbrev pub sampling_of : Paint → Sampling
sampling_of paint = record {
  unit = unit_of paint;
  inset = paint.scale;
  white = paint.white;
  vwhite = paint.vwhite;
  most = 151;
}

-- every pixel of a picture of at most 1,024 by 1,024
abbrev pub each_pixel : Sampling
each_pixel = record { unit = 1; inset = 0; white = 0; vwhite = 0; most = 1024 }

-- A sampling in range: the pixel that is looked at is one of its module.
pub record IsSampling (sampling : Sampling) : Type 0 where
  pub inside : sampling.inset < sampling.unit
  pub scaled : sampling.unit ≤ 40
  pub narrow : sampling.white ≤ 100
  pub short : sampling.vwhite ≤ 100
  pub few : sampling.most ≤ 1024
