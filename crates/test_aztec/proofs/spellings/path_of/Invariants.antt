use Rattle.std.proofs.Common.{◌≡◌, take}
use Rattle.test_aztec.proofs.spellings.path_of.Given as goal

abbrev pub invariant-loop-code : goal.invariant-loop-code
invariant-loop-code l = l.path ≡ take l.code-index l.codes
