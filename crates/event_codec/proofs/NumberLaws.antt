-- Numbers are read as they are spelled.
use Rattle.std.proofs.Common.{ℕ, ◌^◌, ◌<◌, List, refl, arith}
use Rattle.std.specs.Int.{from_be_bytes, to_be_bytes, w16, w32, w64}
use Rattle.std.proofs.lemmas.Nat.{be_bytes_2, be_bytes_4, be_bytes_8, from_be_bytes-to_be_bytes_2, from_be_bytes-to_be_bytes_4}
use Rattle.std.proofs.lemmas.Nat.{from_be_bytes-to_be_bytes_8}
use Rattle.event_codec.specs.Readers.{u16_at, u32_at, u64_at}
use Rattle.event_codec.specs.Spell as spell
use Rattle.event_codec.specs.Spell.{u16, u32, u64}
use Rattle.event_codec.specs.Valid.{IsU16, IsU32, IsU64}
use Rattle.event_codec.proofs.CombinatorLaws.{IsBytes, Reads, reads_big_endian}

below_2 : (bytes : List ℕ) → IsBytes bytes → from_be_bytes w16 bytes < 2 ^ 16
below_2 bytes small = omega (arith, small 0, small 1)

below_4 : (bytes : List ℕ) → IsBytes bytes → from_be_bytes w32 bytes < 2 ^ 32
below_4 bytes small = omega (arith, small 0, small 1, small 2, small 3)

below_8 : (bytes : List ℕ) → IsBytes bytes → from_be_bytes w64 bytes < 2 ^ 64
below_8 bytes small = omega (arith, small 0, small 1, small 2, small 3, small 4, small 5, small 6, small 7)

pub reads_u16 : Reads spell.u16 IsU16 u16_at
unfolding u16_at u16
reads_u16 = reads_big_endian w16 (to_be_bytes w16) (2 ^ 16) (λ n. refl)
    (λ bytes len small. (be_bytes_2 bytes (from_be_bytes w16 bytes) len small refl, below_2 bytes small)) from_be_bytes-to_be_bytes_2

pub reads_u32 : Reads spell.u32 IsU32 u32_at
unfolding u32_at u32
reads_u32 = reads_big_endian w32 (to_be_bytes w32) (2 ^ 32) (λ n. refl)
    (λ bytes len small. (be_bytes_4 bytes (from_be_bytes w32 bytes) len small refl, below_4 bytes small)) from_be_bytes-to_be_bytes_4

pub reads_u64 : Reads spell.u64 IsU64 u64_at
unfolding u64_at u64
reads_u64 = reads_big_endian w64 (to_be_bytes w64) (2 ^ 64) (λ n. refl)
    (λ bytes len small. (be_bytes_8 bytes (from_be_bytes w64 bytes) len small refl, below_8 bytes small)) from_be_bytes-to_be_bytes_8
