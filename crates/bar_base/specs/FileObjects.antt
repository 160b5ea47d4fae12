-- The files that a file sink and a file source are over.
use Rattle.std.specs.Borrow.{MutBor}
use Rattle.bar_base.specs.declared.file_sink.FileSink.{FileSink}
use Rattle.bar_base.specs.declared.file_source.FileSource.{FileSource}

-- the files of a sink
abbrev pub sink_files : {F : Type 0} → FileSink F → MutBor F
sink_files sink = sink.files

-- the files of a source
abbrev pub source_files : {F : Type 0} → FileSource F → MutBor F
source_files source = source.files
