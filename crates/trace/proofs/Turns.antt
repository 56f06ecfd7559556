-- The player's loop: what holds when a turn has played k records, and one record more. Assumes nothing.
use Prim.Native.Nat.{ℕ, ◌+◌, ◌-◌, ◌*◌, ◌/◌, ◌≤◌}
use mathlib.Core.List.{List, [], ◌∷◌, ◌++◌, append-nil}
use mathlib.Core.Logic.{⊎_elim}
use mathlib.Core.Path.{◌≡◌, refl, sym, ap, ◌∙◌}
use native.Mathlib.Omega.{arith}
use borrow.Author.Tests.{ltb-true, ltb-false}
use lib.Dec.{ltb}
use lib.ListN.{length, drop}
use Rattle.std.specs.Prelude.{Option}
use Rattle.std.proofs.lemmas.Bool.{cases_Bool}
use Rattle.numbers.specs.declared.answers.Answer.{Answer}
use Rattle.numbers.specs.Answers.{number_of}
use Rattle.text.specs.Text.{line, line_size, filled, Put, PutIn}
use Rattle.text.proofs.Filling.{put_none, put_all, put_then, put_length}
use Rattle.text.proofs.Widths.{line_most}
use Rattle.calls.specs.declared.Call.{Call}
use Rattle.decode.specs.Decode.{record_size, first_asked}
use Rattle.world.specs.World.{World}
use Rattle.trace.specs.Play.{asked, plainly, told, next, text_by, world_by, last_place, turn_count, Turn}
use Rattle.trace.proofs.Playing.{asked_length, asked_more, world_then, text_then, text_most}

-- as many records are read, have room and have a place
pub record Counted (n size room count : ℕ) : Type 0 where
  pub read : count * record_size ≤ size
  pub fits : count * line_size ≤ room
  pub place : n + count ≤ last_place

pub counted : (n size room : ℕ) → n ≤ last_place → Counted n size room (turn_count n size room)
unfolding turn_count
counted n size room h =
    ⊎_elim
    (λ t. rw t (record { read = omega arith; fits = omega arith; place = omega arith }))
    (λ t.
    let l = ltb-false (last_place - n) size t in
    ⊎_elim
    (λ s.
    let r = ltb-true (size / record_size) (room / line_size) s in
    rw (t, s) (record { read = omega arith; fits = omega arith; place = omega arith }))
    (λ s.
    let r = ltb-false (size / record_size) (room / line_size) s in
    rw (t, s) (record { read = omega arith; fits = omega arith; place = omega arith }))
    (cases_Bool (ltb (size / record_size) (room / line_size))))
    (cases_Bool (ltb (last_place - n) size))

-- a turn has played k records: `out` holds their text up to `end`, w is the world after them
pub record Going (start : World) (place : ℕ) (input before : List ℕ) (w : World) (out : List ℕ) (k end : ℕ) : Type 0 where
  pub text : Put before 0 (text_by plainly start place (asked k input)) out end
  pub world : w ≡ world_by plainly start (asked k input)
  pub size : length out ≡ length before

module _ {start : World} {place : ℕ} {input before : List ℕ} where
  -- at first none
  pub begins : Going start place input before start before 0 0
  unfolding asked text_by world_by
  begins = record { text = put_none before 0; world = refl; size = refl }

  -- the text of k records ends where the longest would end, or before
  pub end_most : {w : World} {out : List ℕ} {k end : ℕ} → Going start place input before w out k end → end ≤ k * line_size
  end_most {w} {out} {k} {end} g =
      let l = asked_length k input in
      let m = text_most plainly start place (asked k input) in
      let e = g.text.ends in
      omega arith

  -- one record more
  pub goes :
      {w : World} {out : List ℕ} {k end : ℕ} →
      Going start place input before w out k end →
      k * line_size + line_size ≤ length before →
      (d : Option Call) →
      d ≡ first_asked (drop (k * record_size) input) →
      {after : List ℕ} {to : ℕ} (answer : Answer) →
      answer ≡ told plainly w d →
      PutIn line_size out end (line (place + k) (number_of answer)) after to →
      {v : World} →
      v ≡ next plainly w d →
      Going start place input before v after (k + 1) to
  unfolding text_by world_by
  goes {w} {out} {k} {end} g room d e {after} {to} answer a given {v} step =
      let x = asked k input in
      let f = first_asked (drop (k * record_size) input) in
      let more = asked_more k input in
      let most = end_most g in
      let size = g.size in
      let longest = line_most (place + k) (number_of answer) in
      let put = put_all line_size end to out (line (place + k) (number_of answer)) after (omega arith) given in
      let ends = put.ends in
      let last : line (place + k) (number_of answer) ≡ text_by plainly (world_by plainly start x) (place + length x) (f ∷ []) =
      sym (append-nil (line (place + k) (number_of answer)))
      ∙ ap (λ (i : ℕ). line (place + i) (number_of answer) ++ []) (sym (asked_length k input))
      ∙ ap (λ (i : Answer). line (place + length x) (number_of i) ++ []) a
      ∙ ap (λ (u : World). line (place + length x) (number_of (told plainly u d)) ++ []) g.world
      ∙ ap (λ (i : Option Call). line (place + length x) (number_of (told plainly (world_by plainly start x) i)) ++ []) e in
      let texts : text_by plainly start place x ++ line (place + k) (number_of answer) ≡ text_by plainly start place (asked (k + 1) input) =
      ap (λ (t : List ℕ). text_by plainly start place x ++ t) last
      ∙ sym (text_then plainly start place x (f ∷ []))
      ∙ ap (text_by plainly start place) (sym more) in
      record {
        text = rw texts at (put_then g.text put (omega arith));
        world =
            step
            ∙ ap (λ (u : World). next plainly u d) g.world
            ∙ ap (next plainly (world_by plainly start x)) e
            ∙ sym (world_then plainly start x (f ∷ []))
            ∙ ap (world_by plainly start) (sym more);
        size = put_length put (omega arith) ∙ size;
      }

  -- a turn that has played all its records
  pub finishes :
      {w : World} {out : List ℕ} {k end count : ℕ} →
      Going start place input before w out k end →
      Counted place (length input) (length before) count →
      count ≡ turn_count place (length input) (length before) →
      k ≡ count →
      Turn start place input before
      (record { block = w.block; records = w.records; read = k * record_size; end = end; place = place + k })
      w.eras out
  finishes {w} {out} {k} {end} {count} g c t h =
      let e = h ∙ t in
      let all = turn_count place (length input) (length before) in
      let records : asked k input ≡ asked all input = ap (λ (i : ℕ). asked i input) e in
      let world = g.world ∙ ap (world_by plainly start) records in
      let text = ap (text_by plainly start place) records in
      let ends : end ≡ length (text_by plainly start place (asked all input)) =
      (let p = g.text.ends in let z : end ≡ length (text_by plainly start place (asked k input)) = omega arith in z)
      ∙ ap length text in
      let most = end_most g in
      record {
        result =
            λ i.
            record {
              block = (world i).block;
              records = (world i).records;
              read = e i * record_size;
              end = ends i;
              place = place + e i;
            };
        matrix = ap (λ (v : World). v.eras) world;
        text = g.text.fills ∙ ap (filled before 0) text;
        read_within = omega (arith, c.read);
        end_within = omega (arith, c.fits);
      }
