-- The header word (R1.4): bits 0 to 31 the era of the last swap, 32 to 47 the count, 48 to 55 the client of the last
-- swap, the rest zero.
use Rattle.std.specs.Prelude.{ℕ, ◌+◌, ◌*◌, ◌/◌, ◌%◌, Bool, eqb}
use Rattle.header.specs.declared.Fields.{Fields}

-- R1.4: the word of the fields, each cut to its bits
unfoldable pub packed : Fields → ℕ
packed f = f.era.0 % 4294967296 + f.count % 65536 * 4294967296 + f.client.0 % 256 * 281474976710656

-- R1.4: the fields of a word
unfoldable pub unpacked : ℕ → Fields
unpacked w =
    record {
      era = record { 0 = w % 4294967296 };
      count = w / 4294967296 % 65536;
      client = record { 0 = w / 281474976710656 % 256 };
    }

-- R1.4: the era of the last swap
abbrev pub era_in : ℕ → ℕ
era_in w = (unpacked w).era.0

-- R1.4: the count
abbrev pub count_in : ℕ → ℕ
count_in w = (unpacked w).count

-- R1.4: the client of the last swap
abbrev pub client_in : ℕ → ℕ
client_in w = (unpacked w).client.0

-- R1.6: a slot is free exactly when its count is 0
abbrev pub is_free : ℕ → Bool
is_free w = eqb (count_in w) 0

-- R1.4: bits 56 to 63, zero in every header of a history
unfoldable pub spare_in : ℕ → ℕ
spare_in w = w / 72057594037927936
