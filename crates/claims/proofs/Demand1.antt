-- Demand 1, of the definitions: a refused append leaves the bytes that it was given, and what a play on any log leaves.
use mathlib.Core.Path.{◌≡◌, refl, sym}
use mathlib.Core.Bool.{true}
use Prim.Native.Nat.{ℕ}
use Rattle.lists.specs.Tests.{clash}
use Rattle.model.specs.Objects.{Shape}
use Rattle.model.specs.Slot.{ok_shape}
use Rattle.model.specs.Answers.{Answer, done, refused}
use Rattle.model.specs.Append.{Request}
use Rattle.model.specs.Histories.{Lent, is_refused, append_to}
use Rattle.model.specs.Claims.{Demand1}
use Rattle.laws.proofs.Appends.{refused-same}
use Rattle.claims.proofs.Leaves.{play-leaves}

pub unchanged : (sh : Shape) (l : Lent) (q : Request) → is_refused (append_to sh l q).new_tail ≡ true → (append_to sh l q).bytes ≡ l.bytes
unchanged sh l q h = go (append_to sh l q).new_tail refl h
  where
    go : (x : Answer ℕ) → (append_to sh l q).new_tail ≡ x → is_refused x ≡ true → (append_to sh l q).bytes ≡ l.bytes
    go (done t) e i = clash true refl (sym i)
    go (refused r) e i = refused-same sh l.bytes l.tail q r e

pub demand1 : (sh : Shape) → ok_shape sh ≡ true → Demand1 sh
demand1 sh shape = record { refused_append = unchanged sh; play_leaves = play-leaves sh shape }
