-- To be believed. The words of SQL, in lower case, each with what it is to the grammar; synonyms are one.
use Rattle.std.specs.Prelude.{ℕ, List, [], ◌∷◌, ◌++◌, map, zip, codes}
use Rattle.iso_lexer.specs.Bytes.{words_of}
use Rattle.sql_trees.specs.declared.word.Word.{Word}
use Rattle.sql_trees.specs.declared.word.Word.TheVariants.{Begin, Start, Commit, End, Rollback, Abort, Work, Transaction, Isolation, Level, Read, Committed, Uncommitted, Repeatable, Set, Session, Local, To, DeadlockTimeout}
use Rattle.sql_trees.specs.declared.word.Word.TheVariants.{Create, Table, Drop, If, Exists, Primary, Key, Unique, Integer, Bigint, Text, Boolean}
use Rattle.sql_trees.specs.declared.word.Word.TheVariants.{Insert, Into, Values, Update, Delete, Select, As, From, Where, Order, By, Asc, Desc, Nulls, First, Last, For, Share, No, NoWait, Skip, Locked, On, Conflict, Do, Nothing, Returning}
use Rattle.sql_trees.specs.declared.word.Word.TheVariants.{And, Or, Not, Is, In, Between, Null, True, False, Unknown, Count, Sum, Min, Max, Excluded, LeftOut}

-- each word of a line, as this one
abbrev pub words_as : Word → List ℕ → List (List ℕ × Word)
words_as w line = map (λ text. (text, w)) (words_of line)

unfoldable pub keywords : List (List ℕ × Word)
keywords =
    -- transactions and settings
    zip (words_of (codes "begin start commit end rollback abort work transaction isolation level"))
    (Begin ∷ Start ∷ Commit ∷ End ∷ Rollback ∷ Abort ∷ Work ∷ Transaction ∷ Isolation ∷ Level ∷ [])
    ++ zip (words_of (codes "read committed uncommitted repeatable set session local to deadlock_timeout"))
    (Read ∷ Committed ∷ Uncommitted ∷ Repeatable ∷ Set ∷ Session ∷ Local ∷ To ∷ DeadlockTimeout ∷ [])
    -- tables and their columns
    ++ zip (words_of (codes "create table drop if exists primary key unique integer int int4 bigint int8 text varchar boolean bool"))
    (Create ∷ Table ∷ Drop ∷ If ∷ Exists ∷ Primary ∷ Key ∷ Unique ∷ Integer ∷ Integer ∷ Integer ∷ Bigint ∷ Bigint ∷ Text ∷ Text ∷ Boolean ∷ Boolean ∷ [])
    -- rows
    ++ zip (words_of (codes "insert into values update delete select as from where order by asc desc nulls first last for share no nowait skip locked on conflict do nothing returning"))
    (Insert ∷ Into ∷ Values ∷ Update ∷ Delete ∷ Select ∷ As ∷ From ∷ Where ∷ Order ∷ By ∷ Asc ∷ Desc ∷ Nulls ∷ First ∷ Last ∷ For ∷ Share ∷ No ∷ NoWait ∷ Skip ∷ Locked
    ∷ On ∷ Conflict ∷ Do ∷ Nothing ∷ Returning ∷ [])
    -- expressions and aggregates
    ++ zip (words_of (codes "and or not is in between null true false unknown count sum min max"))
    (And ∷ Or ∷ Not ∷ Is ∷ In ∷ Between ∷ Null ∷ True ∷ False ∷ Unknown ∷ Count ∷ Sum ∷ Min ∷ Max ∷ [])
    -- no names: they stand for a part that is left out
    ++ words_as Excluded (codes "all any case cast check collate constraint cross default distinct else except fetch foreign full group having ilike inner intersect")
    ++ words_as Excluded (codes "isnull join left like limit natural notnull offset outer references right similar then union using when window with")
    -- names: where none can stand, they stand for a part that is left out
    ++ words_as LeftOut (codes "alter copy deferrable execute explain index lock only prepare release savepoint sequence serializable truncate vacuum view")

-- the words that are no name, unless they stand in quotes (PostgreSQL manual, appendix C)
unfoldable pub reserved_words : List (List ℕ)
reserved_words =
    words_of (codes "end create table primary unique into select as from where order asc desc for on returning and or not is in between null true false all any case cast")
    ++ words_of (codes "check collate constraint cross default distinct else except fetch foreign full group having ilike inner intersect isnull join left")
    ++ words_of (codes "like limit natural notnull offset outer references right similar then union using when window with")

-- the words that stand for a part of SQL that is left out, where no rule allows them
unfoldable pub left_out_words : List (List ℕ)
left_out_words =
    words_of (codes "read drop select on returning all any case cast check collate constraint cross default distinct else except fetch foreign full group having")
    ++ words_of (codes "ilike inner intersect isnull join left like limit natural notnull offset outer references right similar then union")
    ++ words_of (codes "using when window with alter copy deferrable execute explain index lock only prepare release savepoint sequence")
    ++ words_of (codes "serializable truncate vacuum view")
