-- What is spelled has bits.
use Rattle.std.proofs.Common.{◌<◌, Bool, true, false, List, length, ap, arith, length-append}
use Rattle.bar_base.specs.declared.element.Element.{Element}
use Rattle.aztec_modes.specs.declared.mode.Mode.{Mode}
use Rattle.aztec_modes.specs.declared.mode.Mode.TheVariants.{Upper, Lower, Mixed, Punct, Digit}
use Rattle.aztec_modes.specs.declared.code.Code.{Code}
use Rattle.aztec_modes.specs.declared.code.Code.TheVariants.{Latch, Plain, Shift, Fnc1, Eci, Run}
use Rattle.aztec_modes.specs.Codes.{mode_width}
use Rattle.aztec_modes.specs.Entry.{code_length, flag_width}
use Rattle.aztec_modes.specs.Spelling.{Spells, append_mark, nothing, onward}
use Rattle.aztec_modes.proofs.EntryLaws.{entry_len}
use Rattle.aztec_best.specs.Shortest.{IsDrawn}

width_positive : (mode : Mode) → 0 < mode_width mode
unfolding mode_width
width_positive Upper = omega arith
width_positive Lower = omega arith
width_positive Mixed = omega arith
width_positive Punct = omega arith
width_positive Digit = omega arith

flag_positive : (mode : Mode) → 0 < flag_width mode
unfolding flag_width mode_width
flag_positive Upper = omega arith
flag_positive Lower = omega arith
flag_positive Mixed = omega arith
flag_positive Punct = omega arith
flag_positive Digit = omega arith

length_positive : (mode : Mode) (code : Code) → 0 < code_length mode code
unfolding code_length
length_positive mode (Latch to) = width_positive mode
length_positive mode (Plain number) = width_positive mode
length_positive mode (Shift to number) = omega (arith, width_positive mode)
length_positive mode Fnc1 = flag_positive mode
length_positive mode (Eci number count) = omega (arith, flag_positive mode)
length_positive mode (Run count true) = omega (arith, width_positive mode)
length_positive mode (Run count false) = omega (arith, width_positive mode)

spells_some : {mode : Mode} {codes : List Code} {bits : List Bool} {elements : List Element}
    → Spells mode codes bits elements → 0 < length elements → 0 < length bits
spells_some nothing some = absurd (omega arith)
spells_some {mode} (onward {code = code} {bits = bits} {rest = rest} entry more) some =
    omega (arith, length-append bits rest, entry_len entry, length_positive mode code)

-- The drawn spelling of some elements has bits, with the mark of a set or without.
pub drawn_some : (append : Bool) (elements : List Element) (bits : List Bool) → IsDrawn append elements bits → 0 < length elements → 0 < length bits
drawn_some false elements bits h some = spells_some h.spelling.0.1 some
drawn_some true elements bits h some =
    let (rest, is, spelled) = h.spelling in
    omega (arith, ap length is, length-append append_mark rest, spells_some spelled.1 some)
