-- Codes of keys: numbers by which notes are found. Keys that are equal have one code; keys of one code need not be equal.
use Rattle.std.specs.Prelude.{ℕ, ◌+◌, ◌*◌, ◌%◌, ◌^◌, cond, List, [], ◌∷◌, Option, Some, None, option_and_then, slice_get}
use Rattle.std.specs.Int.{cast_unsigned, w64}
use Rattle.sql_values.specs.declared.value.Value.{Value}
use Rattle.sql_values.specs.declared.value.Value.TheVariants.{Null, Int, Big, Text, Bool as Boolean}
use Rattle.row_versions.specs.declared.names.TableId.{TableId}
use Rattle.unique_keys.specs.declared.noted.Noted.{Noted}
use Rattle.unique_keys.specs.declared.known.KnownKey.{KnownKey}

-- the number behind the code
unfoldable pub mix : ℕ → ℕ → ℕ
mix code number = ((code * 1000003) % 2 ^ 64 + number) % 2 ^ 64

abbrev pub bytes_code : ℕ → List ℕ → ℕ
bytes_code code [] = code
bytes_code code (byte ∷ bytes) = bytes_code (mix code byte) bytes

-- an integer and a bigint of one value have one code; NULL has none
abbrev pub value_code : Option Value → Option ℕ
value_code None = None
value_code (Some Null) = None
value_code (Some (Int z)) = Some (cast_unsigned w64 z)
value_code (Some (Big z)) = Some (cast_unsigned w64 z)
value_code (Some (Text s)) = Some (bytes_code 1 s)
value_code (Some (Boolean b)) = Some (cond b 1 0)

-- from the code on, each column's number and its value's
abbrev pub code_from : ℕ → List ℕ → List Value → Option ℕ
code_from code [] row = Some code
code_from code (column ∷ columns) row = option_and_then (λ number. code_from (mix (mix code column) number) columns row) (value_code (slice_get row column))

-- the code of the row's key of these columns of the table; a key with a NULL has none
abbrev pub key_code : TableId → List ℕ → List Value → Option ℕ
key_code table columns row = code_from table.0 columns row

-- the code of what the note gave its row
abbrev pub note_code : KnownKey → Noted → Option ℕ
note_code key w = option_and_then (λ row. key_code key.table key.columns.items row) w.values
