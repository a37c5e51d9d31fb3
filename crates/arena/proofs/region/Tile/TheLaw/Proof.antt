-- The law of the type `Tile`: a `&` to a tile is made where one to its words is. Assumes `Logic`.
use Rattle.std.proofs.Common.{[]}
use denote.Array.{Array-row_laws}
use denote.Plain.{uint_row_laws}
use denote.Shares.{Shares-Array}
use denote.Param.Shared.{copy_shared}
use denote.Struct.Field.{RawPtr-field, u32-field, u64-field}
use denote.Struct.Laws.{RawPtr-copy, u32-copy, u64-copy}
use denote.Struct.Lending.{lent_at_shr_laws, Lends-lies, of_Lends}
use Rattle.std.specs.Borrow.{u64}
use mir.Syntax.{w64}
use Rattle.arena.specs.Ownership.{block_row}
use Rattle.arena.specs.contracts.region.Tile as C
use Rattle.arena.proofs.region.Tile.TheLaw.Statement.{statement}

-- a borrowed tile shows what the law of its type says
pub shares : statement
shares = of_Lends C.struct C.the_codes C.the_heap C.the_lent
    (λ d p. lent_at_shr_laws block_row (Array-row_laws u64 (uint_row_laws w64) 64) d.at d.words)
    (copy_shared RawPtr-field RawPtr-copy, (copy_shared u32-field u32-copy, tt))
    (λ M 𝓤 𝓛 d p. Lends-lies 𝓛 block_row (C.the_row).lives d.at d.words
    (Shares-Array 𝓛 u64 tt 64 [] ((copy_shared u64-field u64-copy).shares M 𝓤 𝓛) d.words))
