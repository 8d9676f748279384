-- A file may be shared by threads.
use denote.Ref.{NamedLft}
use denote.Param.Send.{IsSync, AllSync, recorded_sync, struct_sync, sendable}
use denote.Struct.Declared.{shape}
use Rattle.std.proofs.Crossing.{crosses}
use Rattle.sql_blocks.proofs.Sending.{block_sync}
use Rattle.spec_files.specs.contracts.file.SpecFile as SpecFile

pub file_sync : (κ : NamedLft) → IsSync (SpecFile.the_row κ)
file_sync κ =
    let T = SpecFile.the_type κ in
    let all : AllSync (shape T).fields = (search (sendable, crosses) depth 60, (search (sendable, crosses, block_sync) depth 60, tt)) in
    recorded_sync _ _ _ T.to_one (struct_sync (shape T) all)
