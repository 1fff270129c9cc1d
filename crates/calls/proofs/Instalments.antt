-- A play in instalments: wherever the first play stopped, it had reached that offset with those cells, and a play from there
-- goes on as the whole one does. The table's bytes after the first are read back as its cells, since all of them fit their fields.
use Prim.Native.Nat.{ℕ, zero, suc, ◌+◌, ◌-◌, ◌/◌, ◌≤◌, ◌<◌}
use mathlib.Core.Path.{◌≡◌, refl, ap, sym, ◌∙◌, subst}
use mathlib.Core.Bool.{Bool, true, false, cond, not}
use mathlib.Core.List.{List, [], ◌∷◌, ◌++◌}
use mathlib.Core.Option.{Option, none, some}
use native.Mathlib.Omega.{arith}
use borrow.Author.Tests.{ltb-false, le-ltb, not-false}
use lib.Dec.{leb}
use lib.ListN.{length}
use Rattle.lists.specs.Tests.{ands, ors, neither}
use Rattle.lists.specs.Sets.{all, meets}
use Rattle.model.specs.Objects.{Shape, hosted, bad_set}
use Rattle.model.specs.Directory.{shape_of}
use Rattle.model.specs.Entries.{Write, Entry, plain, numbered, commit, decision, checkpoint, blank, effect, Log, writes_of, header_objects}
use Rattle.model.specs.Slot.{log_in, most_slots, ok_shape}
use Rattle.model.specs.Rules.{ok_write, ok_writes, ok_entry, lowest_bad}
use Rattle.model.specs.Table.{Cell, cells_of, table_with, capacity, apply, cell_size, in_order}
use Rattle.model.specs.Play.{Played, going, waits, lacks, cells_in, version_at, outcome, make, finish, act, step, and_then, play}
use Rattle.model.specs.Answers.{Refusal, done, refuse, bad_directory, frame_and_entries, bad_frame as model-bad_frame}
use Rattle.model.specs.Append.{Replica, bad_replica}
use Rattle.model.specs.Replica as model
use Rattle.model.specs.Histories.{play_on}
use Rattle.model.specs.Claims.{Bytes}
use Rattle.records.specs.Record.{replica_in}
use Rattle.calls.specs.Values.{carry, stop_of, kept}
use Rattle.calls.specs.Claims.{CallsInstalments}
use Rattle.calls.proofs.Promises.{play-promise}
use Rattle.laws.proofs.Items.{fits_cell}
use Rattle.laws.proofs.Tables.{length-cells, cells-back, cells_fit}
use Rattle.laws.proofs.Slots.{Kept, writes_ok}
use Rattle.laws.proofs.Appends.{good-kept}
use Rattle.laws.proofs.Records.{good-shape}
use Rattle.laws.proofs.Refusals.{all_pass, refuse-none, refuse_at-none}
use Rattle.laws.proofs.Room.{play-fits, length-with}
use Rattle.claims.proofs.Audits.{tail-small}
use Rattle.claims.proofs.Reached.{play-on, stands_at, Reached, play-reached}
use Rattle.codec.specs.Eight.{in_log}
use Rattle.table.specs.Stored.{table-again}
use Rattle.claims.proofs.Cells.{apply-fits}
use Rattle.player.specs.PlayLaws.{step-grows}
use Rattle.laws.proofs.Plays.{ordered-play}

module _ (sh : Shape) (log : Log) (set : List ℕ) (room : ℕ) where
  abbrev go_on : ℕ → List Cell → ℕ → Played
  go_on p cs n = play sh log set room p cs n

  play-grows : (p : ℕ) (cs : List Cell) (n : ℕ) → length cs ≤ length (cells_in (go_on p cs n))
  unfolding play
  play-grows p cs zero = omega arith
  play-grows p cs (suc n) = go (go_on p cs n) (play-grows p cs n)
    where
      go : (x : Played) → length cs ≤ length (cells_in x) → length cs ≤ length (cells_in (and_then x (step sh log set room (p + n))))
      go (going ds) h = omega (arith, h, step-grows sh log set room (p + n) ds)
      go (waits q ds) h = h
      go (lacks q ds) h = h

  -- ---- the cells of a play fit their fields

  module _ (shape : ok_shape sh ≡ true) (kept : Kept sh log log.tail) (few : log.tail ≤ most_slots) where
    step-fit : (p : ℕ) (cs : List Cell) → p < log.tail → all fits_cell cs ≡ true → all fits_cell (cells_in (step sh log set room p cs)) ≡ true
    unfolding step ok_entry ok_writes
    step-fit p cs l f = go (meets set (header_objects log p (log.entry p)))
      where
        made : (ws : List Write) → all (ok_write sh) ws ≡ true → all fits_cell (cells_in (make set room p ws cs)) ≡ true
        made ws ok = by (leb (length (apply set (version_at p) ws cs)) room)
          where
            by : (b : Bool) → all fits_cell (cells_in (cond b (going (apply set (version_at p) ws cs)) (lacks p cs))) ≡ true
            by true = apply-fits sh shape set (version_at p) (omega arith) ws cs ok f
            by false = f

        tried : (ws : List Write) → all (ok_write sh) ws ≡ true → (o : Option Bool) → all fits_cell (cells_in (finish set room p ws cs o)) ≡ true
        tried ws ok none = f
        tried ws ok (some true) = made ws ok
        tried ws ok (some false) = f

        on : (e : Entry) → ok_entry sh log p e ≡ true → all fits_cell (cells_in (act sh log set room p cs (effect e))) ≡ true
        on (plain ws) h = made ws (search ands)
        on (numbered n ws) h = f
        on (commit n c) h = tried (writes_of log n p) (writes_ok sh log n p (λ o m. kept o (omega arith))) (outcome sh log set p cs c)
        on (decision r) h = f
        on (checkpoint o ds) h = f
        on blank h = f

        go : (b : Bool) → all fits_cell (cells_in (cond b (act sh log set room p cs (effect (log.entry p))) (going cs))) ≡ true
        go true = on (log.entry p) (kept p l)
        go false = f

    play-fit : (p : ℕ) (cs : List Cell) (n : ℕ) → p + n ≤ log.tail → all fits_cell cs ≡ true → all fits_cell (cells_in (go_on p cs n)) ≡ true
    unfolding play
    play-fit p cs zero l f = f
    play-fit p cs (suc n) l f = go (go_on p cs n) (play-fit p cs n (omega arith) f)
      where
        go : (x : Played) → all fits_cell (cells_in x) ≡ true → all fits_cell (cells_in (and_then x (step sh log set room (p + n)))) ≡ true
        go (going ds) h = step-fit (p + n) ds (omega arith) h
        go (waits q ds) h = h
        go (lacks q ds) h = h

-- ---- the call

-- whether nothing refuses a play
module _ (sh : Shape) (log : Log) where
  abbrev tests : Replica → List ℕ → ℕ → List (Option Refusal)
  tests r t stop = frame_and_entries sh log ++ (refuse 10 (bad_replica sh log.tail r t) ∷ refuse 3 (model.bad_stop log.tail r stop) ∷ [])

  -- a play that nothing refuses
  runs : (r : Replica) (t : List ℕ) (stop : ℕ) → bad_directory sh ≡ none → model-bad_frame sh.layout log ≡ false → lowest_bad sh log ≡ none → bad_replica sh log.tail r t ≡ false
      → model.bad_stop log.tail r stop ≡ false → model.play_call sh log r t stop ≡ model.left_by r.hosting stop t (model.play_from sh log r t stop)
  unfolding model.play_call
  runs r t stop i f g b c = rw (i, f, g, b, c)

  -- one played on a table that another left
  left-again : (set stop : ℕ) (t : List ℕ) (cs : List Cell) (x : Played) → length cs ≤ length (cells_in x)
      → model.left_by set stop (table_with t cs) x ≡ model.left_by set stop t x
  left-again set stop t cs (going ds) h = λ j. record { answer = done tt; replica = record { hosting = set; position = stop; count = length ds }; table = table-again t cs ds h j }
  left-again set stop t cs (waits q ds) h =
      λ j. record { answer = model.plainly 12; replica = record { hosting = set; position = q; count = length ds }; table = table-again t cs ds h j }
  left-again set stop t cs (lacks q ds) h =
      λ j. record { answer = model.plainly 13; replica = record { hosting = set; position = q; count = length ds }; table = table-again t cs ds h j }

  -- a first play that nothing refused, as it stands at q with the cells cs
  left_at : (set stop : ℕ) (t : List ℕ) (x : Played) → (model.left_by set stop t x).replica ≡ record { hosting = set; position = stands_at sh log [] 0 stop x; count = length (cells_in x) }
  left_at set stop t (going cs) = refl
  left_at set stop t (waits q cs) = refl
  left_at set stop t (lacks q cs) = refl

  left-table : (set stop : ℕ) (t : List ℕ) (x : Played) → (model.left_by set stop t x).table ≡ table_with t (cells_in x)
  left-table set stop t (going cs) = refl
  left-table set stop t (waits q cs) = refl
  left-table set stop t (lacks q cs) = refl

  module _ (r : Replica) (t : List ℕ) (bytes : Bytes t) (a b : ℕ) (l : a ≤ b) (m : b ≤ log.tail) where
    abbrev set : List ℕ
    set = hosted sh r.hosting

    abbrev first : Played
    first = model.play_from sh log r t a

    -- the offset and the cells at which the first play stands
    abbrev at : ℕ
    at = stands_at sh log [] 0 a first

    abbrev cells : List Cell
    cells = cells_in first

    abbrev next : Replica
    next = record { hosting = r.hosting; position = at; count = length cells }

    module _ (shape : ok_shape sh ≡ true) (i : bad_directory sh ≡ none) (f : model-bad_frame sh.layout log ≡ false) (g : lowest_bad sh log ≡ none) (c : bad_replica sh log.tail r t ≡ false) (d : model.bad_stop log.tail r a ≡ false) where
      on : r.position ≤ a
      on = ltb-false a r.position (search ors)

      counted : r.count ≤ capacity t
      counted = ltb-false (capacity t) r.count (search ors)

      reached : Reached sh log set (capacity t) r.position (cells_of t r.count) (a - r.position) at cells
      reached =
          let e : r.position + (a - r.position) ≡ a = omega (arith, on) in
          subst (λ (n : ℕ). Reached sh log set (capacity t) r.position (cells_of t r.count) (a - r.position) (stands_at sh log [] 0 n first) cells) e
          (play-reached sh log set (capacity t) r.position (cells_of t r.count) (a - r.position))

      before : at ≤ a
      before = omega (arith, reached.to, on)

      few : length cells ≤ capacity t
      few = play-fits sh log set (capacity t) r.position (cells_of t r.count) (a - r.position) (omega (arith, length-cells t r.count, counted))

      size : length (table_with t cells) ≡ length t
      size = length-with t cells few

      fit : all fits_cell cells ≡ true
      fit = play-fit sh log set (capacity t) shape (good-kept sh log g) (tail-small sh log f) r.position (cells_of t r.count) (a - r.position)
          (omega (arith, on)) (cells_fit t bytes r.count)

      ordered : in_order cells ≡ true
      ordered = ordered-play sh log set (capacity t) r.position (cells_of t r.count) (a - r.position) (not-false (in_order (cells_of t r.count)) (search ors))

      -- the second play goes on from there
      second : model.play_from sh log next (table_with t cells) b ≡ play sh log set (capacity t) at cells (b - at)
      second =
          ap (λ (n : ℕ). play sh log set (n / cell_size) at (cells_of (table_with t cells) (length cells)) (b - at)) size
          ∙ ap (λ (cs : List Cell). play sh log set (capacity t) at cs (b - at)) (cells-back t cells fit)

      -- and so does the whole one
      whole : model.play_from sh log r t b ≡ play sh log set (capacity t) at cells (b - at)
      whole =
          let p = r.position in
          let e : b - p ≡ (at - p) + (b - at) = omega (arith, reached.from, before) in
          let h : p + (at - p) ≡ at = omega (arith, reached.from) in
          ap (play sh log set (capacity t) p (cells_of t r.count)) e
          ∙ play-on sh log set (capacity t) p (cells_of t r.count) (at - p) (b - at)
          ∙ ap (λ (x : Played). and_then x (λ ds. play sh log set (capacity t) (p + (at - p)) ds (b - at))) reached.by
          ∙ ap (λ (n : ℕ). play sh log set (capacity t) n cells (b - at)) h

      -- nothing refuses either of them
      next_fits : bad_replica sh log.tail next (table_with t cells) ≡ false
      next_fits =
          let n : length cells ≤ capacity (table_with t cells) = omega (arith, few, size) in
          let some-set : bad_set sh r.hosting ≡ false = search ors in
          let order : not (in_order (cells_of (table_with t cells) (length cells))) ≡ false = ap (λ (cs : List Cell). not (in_order cs)) (cells-back t cells fit) ∙ ap not ordered in
          neither (neither (neither some-set (le-ltb (capacity (table_with t cells)) (length cells) n)) order) (le-ltb log.tail at (omega (arith, before)))

      next-stop : model.bad_stop log.tail next b ≡ false
      next-stop = neither (le-ltb log.tail b m) (le-ltb b at (omega (arith, before)))

      whole-stop : model.bad_stop log.tail r b ≡ false
      whole-stop = neither (le-ltb log.tail b m) (le-ltb b r.position (omega (arith, on)))

      goes_on : model.play_call sh log next (table_with t cells) b ≡ model.play_call sh log r t b
      goes_on =
          runs next (table_with t cells) b i f g next_fits next-stop
          ∙ ap (model.left_by r.hosting b (table_with t cells)) second
          ∙ left-again r.hosting b t cells (play sh log set (capacity t) at cells (b - at)) (play-grows sh log set (capacity t) at cells (b - at))
          ∙ ap (model.left_by r.hosting b t) (sym whole)
          ∙ sym (runs r t b i f g c whole-stop)

    pub instalments : (sh.fault ≡ none → ok_shape sh ≡ true) → model.play_call sh log (model.play_call sh log r t a).replica (model.play_call sh log r t a).table b ≡ model.play_call sh log r t b
    unfolding model.play_call model-bad_frame
    instalments when_directed = go (model.play_refusal sh log r t a) refl
      where
        go : (z : Option Refusal) → model.play_refusal sh log r t a ≡ z
            → model.play_call sh log (model.play_given r a t first z).replica (model.play_given r a t first z).table b ≡ model.play_call sh log r t b
        go (some z) e = refl
        go none e =
            let pass = all_pass (tests r t a) e in
            ap (λ (x : Replica). model.play_call sh log x (model.left_by r.hosting a t first).table b) (left_at r.hosting a t first)
            ∙ ap (λ (x : List ℕ). model.play_call sh log next x b) (left-table r.hosting a t first)
            ∙ goes_on (when_directed (refuse_at-none 15 _ pass.0)) pass.0 (refuse-none 1 _ pass.1.0) (refuse_at-none 2 _ pass.1.1.0) (refuse-none 10 _ pass.1.1.1.0) (refuse-none 3 _ pass.1.1.1.1.0)

-- Instalments of the calls.
pub calls-instalments : CallsInstalments
unfolding log_in
calls-instalments d log k bytes one two entire e l m =
    let stop : ℕ = stop_of entire in
    play-promise d log (kept one) two
    ∙ ap (play_on (shape_of d) log (carry (kept one))) e
    ∙ ap (λ (x : model.Left). model.play_call (shape_of d) (in_log log) x.replica x.table stop) (play-promise d log k one)
    ∙ instalments (shape_of d) (in_log log) (replica_in k.replica) k.table bytes (stop_of one) stop l m (good-shape d)
    ∙ sym (play-promise d log k entire)
