-- Demands 2 and 3 as tests that are computed on small logs. Each sample also says what its calls answer, so that a definition
-- which refuses or waits always is seen too. An edit of a definition that turns a sample false is wrong, and not only unfit
-- for a proof. The samples here show the mistakes that the worked logs do not; crate `samples` has more.
use Rattle.std.specs.Prelude.{ℕ, zero, suc, ◌+◌, ◌*◌, ◌≡◌, refl, Bool, true, false, not, ◌&&◌, ◌||◌, List, [], ◌∷◌, ◌++◌, eqb, leb, ltb, length, replicate}
use Rattle.std.specs.Bool.{beq}
use Rattle.std.proofs.Math.Option.{Option, none, some}
use Rattle.lists.specs.Bytes.{be_at, bytes_of}
use Rattle.lists.specs.Splice.{splice}
use Rattle.lists.specs.Rows.{values, joined}
use Rattle.lists.specs.First.{first, first_from}
use Rattle.lists.specs.Picks.{picks}
use Rattle.lists.specs.Equal.{eq_list}
use Rattle.lists.specs.Sets.{all, any, is_empty, mem, meets}
use Rattle.model.specs.Objects.{Object, ObjectKind, a_map, a_register, the_layout, Shape, is_object, is_cell, hosted}
use Rattle.model.specs.Entries.{Read, Held, Log, decision_in, commit_at, if_some, is_none, writes_of, stamps, astray, closed, decided, Decision, header_objects, number_of, earlier, commit_objects, named}
use Rattle.model.specs.Slot.{write_bytes, write_at, read_bytes, read_at, saved_bytes, saved_at, item_bytes, item_count, header_of, slot_of, decode, slot, log_in, objects_in, last_bytes}
use Rattle.model.specs.Rules.{ok_entry, lowest, lowest_bad, ok_write, ok_writes, ok_read, ok_reads, ok_saved, narrow, good_at, repeats, ok_names}
use Rattle.model.specs.Table.{Cell, Holds, cell_at, cell_bytes, cells_of, table_with, capacity, apply, saved_of, version_in, lookup, in_order, store}
use Rattle.model.specs.Play.{play, commits_over, outcome, step, waits_at, whole}
use Rattle.model.specs.Answers.{Answer, done, refused, first_place, bad_frame}
use Rattle.model.specs.Reading.{Info, bad_sets, owes, owed, entry_call, item_list, info_in}
use Rattle.model.specs.Append.{Request, update, commits, decides, saves, entry_of, own_tests, append}
use Rattle.model.specs.Replica.{Left, open_fresh, open_at, play_call, read_cell, audit, same_content}
use Rattle.model.specs.Run.{Run, start, commits_now, accept, run_at}
use Rattle.model.specs.Histories.{Lent, in_log, empty, after, grown, feed, History, whole_log, stood, Carried, carried, Opening, fresh, at_checkpoint, opened, hosts, shown, cells_written}
use Rattle.model.specs.Claims.{kind_given, first_given, second_given, header_objects_in}
use Rattle.model.specs.Worked.{code, tells, same_offset, put, read, cell, commit_of}

-- the eight objects with fewer keys, so that every cell can be looked at; their layout is the same
abbrev pub obj : ℕ → ObjectKind → ℕ → Bool → Object
obj i t h m = record { id = i; kind = t; highest = h; marked = m }

abbrev pub small : Shape
small = record {
  objects = obj 1 a_map 2 true ∷ obj 2 a_map 9 false ∷ obj 3 a_map 2 true ∷ obj 4 a_map 2 true ∷ obj 5 a_map 2 false
      ∷ obj 6 a_register 0 true ∷ obj 7 a_register 0 false ∷ obj 8 a_register 0 false ∷ [];
  layout = the_layout;
  fault = none;
}

-- a play on the log as it stood after so many appends, to a stop; its answer, and the position that it leaves
pub record Turn : Type 0 where
  pub stood_after : ℕ
  pub stop : ℕ
  pub answers : ℕ
  pub position : ℕ

pub record Sample : Type 0 where
  -- the appends; the tail that they leave; the audit's answer, with its offset; declared sets, and the lowest offset that owes
  pub requests : List Request
  pub tail : ℕ
  pub audits : ℕ
  pub audit_tells : Option ℕ
  pub sets : List ℕ
  pub owing : Option ℕ
  -- an opening, and plays with their answers
  pub opening : Opening
  pub turns : List Turn

abbrev pub given : {A : Type 0} → Answer A → A → A
given (done a) d = a
given (refused r) d = d

abbrev pub same_held : Option Held → Option Held → Bool
same_held none none = true
same_held none (some h) = false
same_held (some g) none = false
same_held (some g) (some h) = eqb g.version h.version && same_content g.content h.content

abbrev pub is_shown : Answer (Option Held) → Option Held → Bool
is_shown (done x) y = same_held x y
is_shown (refused r) y = false

abbrev pub below : (ℕ → Bool) → ℕ → Bool
below f zero = true
below f (suc n) = below f n && f n

-- a test of every cell of a set's objects
abbrev pub each_cell : List Object → List ℕ → (ℕ → ℕ → Bool) → Bool
each_cell [] set f = true
each_cell (b ∷ bs) set f = (not (mem b.id set) || below (f b.id) (suc b.highest)) && each_cell bs set f

-- ReadsBack for each append of a list
abbrev pub is_info : Answer Info → ℕ → ℕ → List ℕ → ℕ → ℕ → Bool
is_info (done i) k n os a b = eqb i.kind k && eqb i.number n && eq_list (header_objects_in i) os && eqb i.first a && eqb i.second b
is_info (refused r) k n os a b = false

abbrev pub given_items : Log → Request → List ℕ
given_items log (update n items) = items
given_items log (commits n items a b) = items
given_items log (decides o v) = item_bytes (entry_of log (decides o v))
given_items log (saves r table o) = item_bytes (entry_of log (saves r table o))

abbrev pub back_holds : Lent → Request → Lent → Bool
back_holds l q new =
    let log = in_log small new in
    is_info (entry_call small log l.tail) (kind_given q) (number_of (entry_of (in_log small l) q)) (header_objects (in_log small l) l.tail (entry_of (in_log small l) q)) (first_given q) (second_given q)
    && eq_list (item_list small log l.tail) (given_items (in_log small l) q)

abbrev pub backs_hold : Lent → List Request → Bool
backs_hold l [] = true
backs_hold l (q ∷ qs) = let new = after small l q in (eqb new.tail l.tail || back_holds l q new) && backs_hold new qs

-- Blocked as a test
abbrev pub blocked : Log → List ℕ → ℕ → Bool
blocked log set q = if_some (commit_at log q) false (λ c. meets set (commit_objects log q c.number)
    && (any (λ (x : Read). not (mem x.object set)) c.condition.reads
    || (ltb 0 (c.condition.first + c.condition.second) && any (λ (b : Object). not (mem b.id set)) small.objects))
    && below (λ d. if_some (decision_in (log.entry d)) true (λ (r : Decision). not (eqb r.offset q))) log.tail)

-- OwesExactly, by that test
abbrev pub owes_hold : Log → List ℕ → Bool
owes_hold log sets = below (λ q. beq (owes small log sets q) (any (λ set. blocked log (hosted small set) q) sets)) log.tail

-- Shows, with the next play of the sample
abbrev pub waits_hold : Log → List ℕ → ℕ → ℕ → Left → Bool
waits_hold log set from stop out =
    let p = out.replica.position in
    beq (eqb (code out.answer) 12) (ltb p stop && blocked log set p)
    && below (λ q. ltb q from || not (blocked log set q)) p
    && leb from p && leb p stop && (not (eqb (code out.answer) 0) || eqb p stop)

abbrev pub lacks_hold : ℕ → ℕ → Left → Bool
lacks_hold room wanted out = not (eqb (code out.answer) 13) || ltb room wanted

abbrev pub reread_holds : Carried → Holds → Read → Bool
reread_holds r cells x = same (shown small r x.object x.key)
  where
    same : Answer (Option Held) → Bool
    same (done h) = not (eqb (version_in h) x.version) || same_held (cells x.object x.key) h
    same (refused e) = true

-- (the run at count p is `ran p`)
abbrev pub rereads_hold : (ℕ → Run) → Log → Carried → Bool
rereads_hold ran log r = below (λ p. if_some (commit_at log p) true
    (λ c. not (commits_now (ran p) c.condition) || all (reread_holds r (ran p).cells) c.condition.reads)) log.tail

-- SameOutcomes at the replica's position
abbrev pub outcome_holds : (ℕ → Run) → Log → Carried → Bool
outcome_holds ran log r =
    let p = r.replica.position in
    if_some (commit_at log p) true (λ c. not (meets (hosts small r) (commit_objects log p c.number))
    || if_some (outcome small log (hosts small r) p (cells_of r.table r.replica.count) c.condition) true
    (λ b. beq b (commits_now (ran p) c.condition)))

-- the parts of Shows that speak of the replica as it is
abbrev pub cells_hold : (ℕ → Run) → Log → Carried → Bool
cells_hold ran whole r =
    let run = ran r.replica.position in
    each_cell small.objects (hosts small r) (λ o k. is_shown (shown small r o k) (run.cells o k))
    && eqb r.replica.count (cells_written small.objects (hosts small r) run.cells)
    && rereads_hold ran whole r

-- the parts that speak of its next play, and SameOutcomes
abbrev pub next_holds : (ℕ → Run) → Log → Carried → ℕ → Left → Bool
next_holds ran log r stop out =
    waits_hold log (hosts small r) r.replica.position stop out
    && lacks_hold (capacity r.table) (cells_written small.objects (hosts small r) (ran (out.replica.position + 1)).cells) out
    && outcome_holds ran log r

-- all of it before each play and after the last
unfoldable pub turns_hold : History → (ℕ → Run) → Log → Carried → List Turn → Bool
turns_hold h ran whole r [] = cells_hold ran whole r
turns_hold h ran whole r (t ∷ ts) =
    let log = in_log small (stood small h t.stood_after) in
    let out = play_call small log r.replica r.table t.stop in
    eqb (code out.answer) t.answers && eqb out.replica.position t.position
    && cells_hold ran whole r && next_holds ran log r t.stop out
    && turns_hold h ran whole (carried out) ts

abbrev pub shows_hold : Sample → History → Log → Option Carried → Bool
shows_hold m h whole none = is_empty m.turns
shows_hold m h whole (some r) = let fed = feed small (empty h.bytes) h.requests in turns_hold h (λ p. run_at p start fed) whole r m.turns

-- the history of a sample, in five slots of junk
abbrev pub history_of : Sample → History
history_of m = record { bytes = replicate (small.layout.slot_size * 5) 7; requests = m.requests }

unfoldable pub sample_holds : Sample → Bool
unfolding turns_hold
sample_holds m =
    let h = history_of m in
    let log = in_log small (whole_log small h) in
    let a = audit small log (replicate 120 7) in
    eqb log.tail m.tail
    && is_none (lowest_bad small log)
    && eqb (code a.answer) m.audits && same_offset (tells a.answer) m.audit_tells
    && same_offset (given (owed small log m.sets) none) m.owing && owes_hold log m.sets
    && (not (eqb m.audits 0) || shows_hold m h log (opened small h m.opening))

abbrev pub to : ℕ → ℕ → Turn
to n s = record { stood_after = n; stop = s; answers = 0; position = s }

abbrev pub but : ℕ → ℕ → ℕ → ℕ → Turn
but n s c p = record { stood_after = n; stop = s; answers = c; position = p }

-- tables with room for five cells, and for one
abbrev pub five : List ℕ
five = replicate 120 7

abbrev pub one : List ℕ
one = replicate 24 7

-- hosting everything; object 2 alone; object 5 alone
abbrev pub all8 : Opening
all8 = fresh 255 five

abbrev pub only2 : Opening
only2 = fresh 2 five

abbrev pub only5 : Opening
only5 = fresh 16 five

-- a checkpoint of object 2 by a replica of object 2 at this position, with these cells
abbrev pub save : ℕ → List Cell → Request
save p cs = saves (record { hosting = 2; position = p; count = length cs }) (joined cell_bytes cs ++ replicate 48 7) 2

abbrev pub both : List ℕ
both = put 2 7 1 ++ put 5 1 2

-- object 5 depends on what was read of object 2
abbrev pub across : List Request
across = update 9 both ∷ commit_of 9 (read 2 7 0) ∷ []

-- 9 commits, and 10 is open
abbrev pub after9 : List Request
after9 = update 9 (put 5 1 6) ∷ commit_of 9 [] ∷ update 10 (put 4 2 1) ∷ []

-- a log that the audit passes, with an opening and plays; it owes a replica of everything nothing
abbrev pub passes : List Request → ℕ → Opening → List Turn → Sample
passes qs n o ts = record { requests = qs; tail = n; audits = 0; audit_tells = none; sets = 255 ∷ []; owing = none; opening = o; turns = ts }

-- a log with a false record
abbrev pub fails : List Request → ℕ → ℕ → Sample
fails qs n f = record { requests = qs; tail = n; audits = 11; audit_tells = some f; sets = 255 ∷ []; owing = none; opening = only5; turns = [] }

-- a log that owes replicas of these sets a decision, played whole
abbrev pub indebted : List ℕ → List Request → ℕ → ℕ → Sample
indebted sets qs n o = record { requests = qs; tail = n; audits = 0; audit_tells = none; sets = sets; owing = some o; opening = all8; turns = to (length qs) n ∷ [] }

-- The mistakes that the worked logs do not show.
abbrev pub mistakes : List Sample
mistakes =
    -- an update set aside before the checkpoint at which a replica opens, and before a later instalment
    passes (update 9 (put 2 7 1) ∷ save 1 [] ∷ commit_of 9 [] ∷ []) 3 (at_checkpoint 3 1 five) (to 3 3 ∷ [])
    ∷ passes (update 9 (put 2 7 1) ∷ update 0 (put 2 8 1) ∷ commit_of 9 [] ∷ []) 3 all8 (to 3 2 ∷ to 3 3 ∷ [])
    -- false records at two offsets
    ∷ fails (across ++ (decides 1 2 ∷ [])) 3 2
    ∷ fails (update 0 (put 2 7 4) ∷ save 1 (cell 2 7 (some 5) 1 ∷ []) ∷ []) 2 1
    -- a decision owed to the second set alone
    ∷ indebted (4 ∷ 2 ∷ []) (update 9 (put 2 7 1) ∷ commit_of 9 (read 3 1 0) ∷ []) 2 1
    -- a transaction that names another, which committed below it, or commits above it; a replica of both objects is owed a decision, and waits for it
    ∷ passes (after9 ++ (commits 10 [] 9 0 ∷ [])) 4 all8 (to 3 3 ∷ to 4 4 ∷ [])
    ∷ passes (update 9 (put 5 1 6) ∷ update 10 (put 4 2 1) ∷ commits 10 [] 9 0 ∷ commit_of 9 [] ∷ []) 4 all8 (to 4 4 ∷ [])
    ∷ indebted (24 ∷ []) (after9 ++ (commits 10 [] 9 0 ∷ [])) 4 3
    ∷ passes (after9 ++ (commits 10 [] 9 0 ∷ decides 3 1 ∷ [])) 5 (fresh 24 five) (but 4 4 12 3 ∷ to 5 5 ∷ [])
    ∷ []

pub mistakes-shown : all sample_holds mistakes ≡ true
unfolding sample_holds be_at bytes_of splice values joined first first_from picks eq_list writes_of stamps astray closed decided header_objects earlier write_bytes write_at read_bytes read_at saved_bytes saved_at item_bytes item_count header_of slot_of last_bytes decode slot log_in ok_entry lowest lowest_bad cell_at cell_bytes cells_of table_with apply saved_of play commits_over whole named waits_at bad_sets owes owed entry_call item_list info_in entry_of first_place own_tests append open_fresh open_at play_call read_cell audit accept run_at grown feed is_object is_cell hosted ok_write ok_writes ok_read ok_reads ok_names ok_saved narrow good_at lookup in_order store step bad_frame objects_in repeats
mistakes-shown = refl
