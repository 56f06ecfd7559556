-- What adding a text to the output does.
use Rattle.std.specs.Prelude.{List, ℕ, ◌+◌, ◌≤◌, ◌≡◌, length}
use Rattle.text.specs.declared.Page.{Page}
use Rattle.text.specs.Text.{Put}

-- so many bytes have room after the text
abbrev pub HasRoom : Page → ℕ → Type 0
HasRoom page n = page.end + n ≤ length page.bytes.now

-- a text was put where the one before ends, in the same bytes, which are as many as they were
pub record Adds (before : Page) (text : List ℕ) (after : Page) : Type 0 where
  pub put : Put before.bytes.now before.end text after.bytes.now after.end
  pub size : length after.bytes.now ≡ length before.bytes.now
  pub same : after.bytes.ghost_name ≡ before.bytes.ghost_name
