-- Where the items of an entry lie: the part of the log's bytes that the call says is the item list.
use Rattle.std.specs.Prelude.{◌≡◌, List, [], ◌∷◌, ℕ, ◌*◌, ◌<◌, leb, take, Ok, Err, IfOk}
use Rattle.std.proofs.Math.Path.{refl, ap, sym}
use Rattle.std.proofs.Common.{◌∙◌, arith, leb-false}
use Rattle.std.proofs.Math.Option.{Option, none, some}
use Rattle.model.specs.Directory.{shape_of}
use Rattle.model.specs.Entries.{Log}
use Rattle.model.specs.Slot.{log_in, most_slots}
use Rattle.model.specs.Rules.{lowest_bad}
use Rattle.model.specs.Answers.{Refusal, done, refuse, refuse_at, answer, bad_directory}
use Rattle.model.specs.Reading.{Info, info_in as model-info_in, entry_refusal, entry_call, or_empty, item_list}
use Rattle.laws.specs.Good.{GoodBelow}
use Rattle.laws.proofs.Good.{good-all}
use Rattle.laws.proofs.Refusals.{AllPass, all_pass, refuse-none, refuse_at-none}
use Rattle.codec.specs.Eight.{slot, log_of, slot_size, bad_frame, info_in, stretch}
use Rattle.scans.specs.Access.{frame_of, Framed, Inside}
use Rattle.answers.specs.Refusals.{Answered, refused_in, refused-answer}
use Rattle.entries.specs.Calls.{frame_is}
use Rattle.entries.specs.Answers.{info_of, found_in}
use Rattle.entries.specs.Entry.{items_lie}
use Rattle.entries.specs.declared.calls.Info as code
use Rattle.stocklog.specs.Replies.{Reply, items_reply, part_said}

module _ (d bytes : List ℕ) (tail o : ℕ) where
  abbrev log : Log
  log = log_of bytes tail

  abbrev s : List ℕ
  s = slot (take (slot_size * tail) bytes) o

  -- the entry call refuses nothing
  module _ (e : entry_refusal (shape_of d) log o ≡ none) where
    passed : AllPass (bad_directory (shape_of d) ∷ refuse 1 (bad_frame log) ∷ refuse_at 2 (lowest_bad (shape_of d) log) ∷ refuse 3 (leb tail o) ∷ [])
    unfolding log_in
    passed = all_pass (bad_directory (shape_of d) ∷ refuse 1 (bad_frame log) ∷ refuse_at 2 (lowest_bad (shape_of d) log) ∷ refuse 3 (leb tail o) ∷ []) e

    below : o < tail
    below = leb-false tail o (refuse-none 3 (leb tail o) passed.1.1.1.0)

    framed : Framed bytes (frame_of tail)
    framed = frame_is bytes (frame_of tail) (refuse-none 1 (bad_frame log) passed.1.0)

    good : GoodBelow (shape_of d) log tail
    unfolding log_in
    good = good-all (shape_of d) log (refuse_at-none 2 (lowest_bad (shape_of d) log) passed.1.1.0)

    inside : Inside d bytes (frame_of tail) o
    inside = record { ruled = record { directed = refuse_at-none 15 (shape_of d).fault passed.0 }; framed = framed; below = below; good = good }

  -- an entry that is told lies below the tail
  pub entry-placed : (i : Info) → entry_call (shape_of d) log o ≡ done i → o < most_slots
  unfolding entry_call
  entry-placed i e =
      let n : entry_refusal (shape_of d) log o ≡ none = sym (refused-answer (entry_refusal (shape_of d) log o) (info_in (slot log.used o))) ∙ ap refused_in e in
      omega (arith, below n, (framed n).most)

  -- so where the code finds one
  pub entry_placed : (f : Answered code.Info) → found_in f ≡ entry_call (shape_of d) log o → IfOk f (λ i. o < most_slots)
  entry_placed (Ok i) e = entry-placed (info_of i) (sym e)
  entry_placed (Err r) e = tt

  pub items-part : part_said (items_reply o (entry_call (shape_of d) log o)) bytes ≡ item_list (shape_of d) log o
  unfolding entry_call item_list model-info_in log_in
  items-part = go (entry_refusal (shape_of d) log o) refl
    where
      go : (x : Option Refusal) → entry_refusal (shape_of d) log o ≡ x → part_said (items_reply o (answer x (info_in s))) bytes ≡ or_empty x (stretch s)
      go none e = items_lie bytes (frame_of tail) o (inside e)
      go (some r) e = refl

  pub items_said : {r : Reply} → r ≡ items_reply o (entry_call (shape_of d) log o) → part_said r bytes ≡ item_list (shape_of d) log o
  items_said e = ap (λ (x : Reply). part_said x bytes) e ∙ items-part
