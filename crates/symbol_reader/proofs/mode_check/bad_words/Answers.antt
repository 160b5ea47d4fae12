use Rattle.std.proofs.Common.{subst}
use Rattle.symbol_reader.specs.Reading.{HasBadSpelling, HasBadWord, HasDamage, IsFaultIn}
use Rattle.symbol_reader.proofs.OneFault.{no_bad_mode}
use Rattle.symbol_reader.proofs.mode_check.bad_words.Goals as goal

pub returns-in-TooDamaged : goal.returns-in-TooDamaged
returns-in-TooDamaged c = λ sight is words bad.
    let damage : HasDamage sight c.in-TooDamaged.field-0 c.in-TooDamaged.field-1 = subst (IsFaultIn sight) c.in-TooDamaged.is is in
    no_bad_mode sight damage.size damage.held damage.mode words bad

pub returns-in-BadWord : goal.returns-in-BadWord
returns-in-BadWord c = λ sight is words bad.
    let word : HasBadWord sight c.in-BadWord.field-0 = subst (IsFaultIn sight) c.in-BadWord.is is in
    no_bad_mode sight word.size word.held word.corrected.mode words bad

pub returns-in-BadSpelling : goal.returns-in-BadSpelling
returns-in-BadSpelling c = λ sight is words bad.
    let spelling : HasBadSpelling sight c.in-BadSpelling.field-0 = subst (IsFaultIn sight) c.in-BadSpelling.is is in
    no_bad_mode sight spelling.size spelling.held spelling.corrected.mode words bad
