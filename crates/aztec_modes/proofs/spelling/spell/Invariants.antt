use Rattle.aztec_modes.proofs.PathLaws.{OnPath}
use Rattle.aztec_modes.proofs.spelling.spell.Given as goal

abbrev pub invariant-loop-code : goal.invariant-loop-code
invariant-loop-code l = OnPath l.codes l.items l.bits l.mode l.at l.code-index
