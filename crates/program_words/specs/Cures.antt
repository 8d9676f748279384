-- What a terminal shows of a fault besides its line of the file: what is wrong, in words, and what cures it.
use Rattle.std.specs.Prelude.{ℕ, Bool, ◌==◌, List, [], ◌∷◌, drop, codes, if◌then◌else◌}
use Rattle.std.specs.List.{starts_with}
use Rattle.spec_parser.specs.declared.fault.SpecFault.{SpecFault}
use Rattle.spec_parser.specs.declared.fault.SpecFault.TheVariants as spec_faults
use Rattle.spec_parser.specs.declared.fault.What.TheVariants as whats
use Rattle.sql_trees.specs.declared.fault.SqlFault.{SqlFault}
use Rattle.sql_trees.specs.declared.fault.SqlFault.TheVariants as sql_faults
use Rattle.spec_files.specs.declared.fault.RunFault.{RunFault}
use Rattle.spec_files.specs.declared.fault.RunFault.TheVariants as faults

-- a byte order mark, in UTF-8
abbrev pub byte_order_mark : List ℕ
byte_order_mark = 239 ∷ 187 ∷ 191 ∷ []

-- the file goes on with this text from the byte on
abbrev pub stands_at : List ℕ → ℕ → List ℕ → Bool
stands_at file at text = starts_with (λ a b. a == b) (drop at file) text

-- a session should begin there
abbrev pub session_words : List ℕ → ℕ → List ℕ
session_words file at =
    if stands_at file at byte_order_mark then codes "HINT:  A byte order mark stands here, and counts as letters. Save the file without it.\n"
    else if stands_at file at (codes "teardown") then codes "HINT:  A file has one main teardown, before its sessions. Put all statements into that one, or into a session's teardown.\n"
    else []

abbrev pub spec_words : List ℕ → SpecFault → List ℕ
spec_words file (spec_faults.Expected whats.Session at) = session_words file at
spec_words file (spec_faults.NoticesLeftOut at) = codes "HINT:  The marker that counts notices is not in this tool. Leave it out.\n"
spec_words file _ = []

abbrev pub sql_words : SqlFault → List ℕ
sql_words (sql_faults.LeftOut at) = codes "HINT:  PostgreSQL has this, and this tool's SQL has not. \"What runs\" in README.md says what there is.\n"
sql_words (sql_faults.DdlInSession at) = codes "HINT:  Tables are made and dropped in main setups and the main teardown alone. Move this statement there.\n"
sql_words _ = []

-- what is said of a fault of this file that has a known cure
abbrev pub words_for : List ℕ → RunFault → List ℕ
words_for file (faults.Spec f) = spec_words file f
words_for file (faults.Sql f) = sql_words f.fault
words_for file (faults.SetupFailed text) = codes "HINT:  It is a main setup, or that of a session. Make a step of each in turn to see which.\n"
words_for file faults.SetupWaits = codes "HINT:  A setup would wait for what an earlier setup holds. End the transaction of that one, or begin it in a step.\n"
words_for file faults.TooManyPermutations = codes "HINT:  Let more of them run by --limit N, or write permutation lines for those that are wanted.\n"
words_for file (faults.NotUtf8 at) = codes "HINT:  Convert the file, from Latin 1 for example: iconv -f latin1 -t utf8 FILE > NEW\n"
words_for file _ = []
