-- The codewords of a symbol: those of the data, and the check codewords behind them.
use Rattle.std.specs.Prelude.{ℕ, ◌-◌, List, length}
use Rattle.galois.specs.CheckNumbers.{IsContinuation, polynomial_of}
use Rattle.aztec_layout.specs.declared.sizes.Size.{Size}
use Rattle.aztec_layout.specs.Sizes.{codeword_width, codewords_of}

-- The codewords of a symbol of a size whose data codewords are these words: the one word of the Reed-Solomon code that begins with them and
-- has as many codewords as the size (ISO/IEC 24778, error correction).
abbrev pub IsCodewords : (size : Size) (words codewords : List ℕ) → Type 0
IsCodewords size words codewords =
    let width = codeword_width size in IsContinuation width (polynomial_of width) words (codewords_of size - length words) codewords
