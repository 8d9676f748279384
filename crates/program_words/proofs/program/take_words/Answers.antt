use Rattle.std.proofs.Common.{map, string_bytes}
use Rattle.clap.specs.Words.{fault_of}
use Rattle.program_words.specs.Options.{program}
use Rattle.program_words.proofs.program.take_words.Goals as goal

pub returns-in-Err-clause-refused : goal.returns-in-Err-clause-refused
returns-in-Err-clause-refused g c = c.refuse.ensures (fault_of program (map string_bytes c.args.words.now)) c.in-Err.ensures.refused
