-- A side of whole modules.
use Rattle.std.proofs.Common.{◌≡◌, ℕ, ◌+◌, ◌*◌, ◌/◌, ◌%◌, ◌<◌, ◌≤◌, true, arith}
use Rattle.std.proofs.lemmas.Bool.Decides.{nat_tests}
use Rattle.std.proofs.Math.Nat.{div-add-mod', mul-le-mul, mul-le-mul_left}
use Rattle.bmp_io.specs.ReadBmp.{modules_between}
use Rattle.bmp_io.specs.Refusals.{is_side}

-- what the test says of the pixels of a side
pub record IsSide (unit white most pixels : ℕ) : Type 0 where
  pub whole : pixels ≡ unit * (pixels / unit)
  pub some : 2 * white < pixels / unit
  pub few : pixels / unit ≤ 2 * white + most

pub IsSide-from_test : (unit white most pixels : ℕ) → is_side unit white most pixels ≡ true → IsSide unit white most pixels
IsSide-from_test unit white most pixels passes =
    let parts : (pixels % unit ≡ 0) × (2 * white < pixels / unit) × (pixels / unit ≤ 2 * white + most) = grind (arith, nat_tests) in
    record { whole = omega (arith, div-add-mod' pixels unit, parts.0); some = parts.1; few = parts.2 }

-- the pixel of a module that is looked at is inside
pub looked-inside : (unit white most pixels x inset : ℕ) → is_side unit white most pixels ≡ true → x < modules_between unit white pixels → inset < unit → unit * (white + x) + inset < pixels
looked-inside unit white most pixels x inset passes inside small =
    let side = IsSide-from_test unit white most pixels passes in
    let top : unit * (white + x + 1) ≤ unit * (pixels / unit) = mul-le-mul_left unit (omega (arith, side.some)) in
    omega (arith, top, side.whole)

-- the pixels of a side
pub pixels-few : (unit white most pixels : ℕ) → is_side unit white most pixels ≡ true → unit ≤ 40 → white ≤ 100 → most ≤ 1024 → pixels ≤ 48960
pixels-few unit white most pixels passes small narrow few =
    let side = IsSide-from_test unit white most pixels passes in
    let top : unit * (pixels / unit) ≤ unit * 1224 = mul-le-mul_left unit (omega (arith, side.few)) in
    omega (arith, top, side.whole)

-- the modules between the white space
pub modules-few : (unit white most pixels : ℕ) → is_side unit white most pixels ≡ true → modules_between unit white pixels ≤ most
modules-few unit white most pixels passes =
    let side = IsSide-from_test unit white most pixels passes in
    omega (arith, side.few)

pub area-few : (a b most : ℕ) → a ≤ most → b ≤ most → most ≤ 1024 → a * b ≤ 1048576
area-few a b most low narrow few =
    omega (arith, mul-le-mul {n₁ = a} {m₁ = b} {n₂ = 1024} {m₂ = 1024} (omega (arith, low, few)) (omega (arith, narrow, few)))
