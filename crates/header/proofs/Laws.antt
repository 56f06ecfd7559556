-- The laws of the header word: packing and unpacking undo each other within the fields' widths, and each field is
-- bounded by its width. Assumes nothing.
use Prim.Native.Nat.{ℕ, ◌+◌, ◌*◌, ◌/◌, ◌%◌, ◌<◌}
use mathlib.Core.Path.{◌≡◌, refl, sym, ◌∙◌}
use native.Mathlib.Nat.{mod-mod, mod-eq_of_lt, div-div-eq-div-mul, div-add-mod'}
use native.Mathlib.Omega.{arith}
use Rattle.header.specs.declared.Fields.{Fields}
use Rattle.header.specs.Header.{packed, unpacked, era_in, count_in, client_in, spare_in}

-- the fields are no wider than their bits
pub record Narrow (f : Fields) : Type 0 where
  pub era : f.era.0 < 4294967296
  pub count : f.count < 65536
  pub client : f.client.0 < 256

pub era_packed : (f : Fields) → Narrow f → era_in (packed f) ≡ f.era.0
unfolding packed unpacked
era_packed f n = omega arith

pub count_packed : (f : Fields) → Narrow f → count_in (packed f) ≡ f.count
unfolding packed unpacked
count_packed f n = omega arith

pub client_packed : (f : Fields) → Narrow f → client_in (packed f) ≡ f.client.0
unfolding packed unpacked
client_packed f n = omega arith

-- what was packed is unpacked again
pub unpacked_packed : (f : Fields) → Narrow f → unpacked (packed f) ≡ f
unfolding unpacked
unpacked_packed f n =
    λ i.
    record {
      era = record { 0 = era_packed f n i };
      count = count_packed f n i;
      client = record { 0 = client_packed f n i };
    }

-- and the other way, for a word with nothing in its spare bits
pub packed_unpacked : (w : ℕ) → spare_in w ≡ 0 → packed (unpacked w) ≡ w
unfolding packed unpacked spare_in
packed_unpacked w s =
    let high = w / 4294967296 in
    let top : w / 281474976710656 ≡ high / 65536 = sym (div-div-eq-div-mul w 4294967296 65536) in
    let spare : high / 65536 / 256 ≡ 0 = div-div-eq-div-mul high 65536 256 ∙ div-div-eq-div-mul w 4294967296 16777216 ∙ s in
    let narrow : high / 65536 < 256 = small (high / 65536) spare in
    rw (mod-mod w 4294967296, mod-mod high 65536, top, mod-mod (high / 65536) 256, mod-eq_of_lt narrow)
    (glued w high (high / 65536) (w % 4294967296) (high % 65536) (div-add-mod' w 4294967296) (div-add-mod' high 65536))
  where
    small : (n : ℕ) → n / 256 ≡ 0 → n < 256
    small n e = omega arith

    glued : (w a b r q : ℕ) → a * 4294967296 + r ≡ w → b * 65536 + q ≡ a → r + q * 4294967296 + b * 281474976710656 ≡ w
    glued w a b r q e f = omega arith

-- a packed word leaves the spare bits zero, and fits 64 bits
pub spare_packed : (f : Fields) → spare_in (packed f) ≡ 0
unfolding packed spare_in
spare_packed f = omega arith

pub packed_fits : (f : Fields) → packed f < 18446744073709551616
unfolding packed
packed_fits f = omega arith

-- the fields of any word are narrow
pub unpacked_narrow : (w : ℕ) → Narrow (unpacked w)
unfolding unpacked
unpacked_narrow w = record { era = omega arith; count = omega arith; client = omega arith }

-- a word of 0 holds nothing
pub zero_era : era_in 0 ≡ 0
unfolding unpacked
zero_era = refl

pub zero_count : count_in 0 ≡ 0
unfolding unpacked
zero_count = refl

pub zero_client : client_in 0 ≡ 0
unfolding unpacked
zero_client = refl
