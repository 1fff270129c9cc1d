-- An append is accepted exactly when nothing stops it: it is refused by the first test that does not pass, and each test passes
-- exactly where its words hold.
use Prim.Native.Nat.{ℕ, ◌/◌, ◌^◌, ◌<◌, ◌≤◌}
use mathlib.Core.Path.{◌≡◌, refl, ap}
use mathlib.Core.Logic.{◌⊎◌, inl, inr, ⊎_elim}
use mathlib.Core.Bool.{Bool, true, false, not, ◌&&◌, ◌||◌}
use mathlib.Core.List.Memᴰ
use mathlib.Core.List.{List, [], ◌∷◌, ◌++◌, Memᴰ}
use mathlib.Core.Option.{Option, none, some}
use native.Mathlib.Omega.{arith}
use borrow.Author.Tests.{eqb-true, eqb-false, ne_eqb, ltb-true, ltb-false, lt-ltb, le-ltb, leb-false, lt-leb, not-true, not-false}
use lib.Dec.{eqb, leb, ltb}
use lib.ListN.{length}
use Rattle.lists.specs.Tests.{ands, ors, both, neither, or_case, clash}
use Rattle.lists.specs.Sets.{all, is_empty, mem}
use Rattle.model.specs.Objects.{Shape, is_object, hosted}
use Rattle.model.specs.Entries.{Write, Condition, Commit, commit, Log, commit_at, astray, writes_of, closed, decided, is_none}
use Rattle.model.specs.Slot.{write_at, read_at, log_in, ok_shape}
use Rattle.model.specs.Rules.{fits, ok_writes, narrow, ok_reads, ok_saved, ok_outcome, ok_number, lowest_bad, ok_names}
use Rattle.model.specs.Table.{Cell, cells_of, in_order, capacity}
use Rattle.model.specs.Answers.{Refusal, refuse, refuse_at, first_place, first_of, slots, bad_frame, frame_and_entries}
use Rattle.model.specs.Append.{Replica, Request, update, commits, decides, saves, writes_given, condition_given, saved_given, not_whole, bad_replica, if_numbered, own_tests, append_refusal, reads_given}
use Rattle.model.specs.Histories.{Lent, in_log, is_refused, Accepted}
use Rattle.model.specs.Terms.{SetAside, Committed, UpdateAllowed, CommitAsked, CommitAllowed, DecisionAllowed, CheckpointAllowed, Allowed, Unstopped}
use Rattle.model.specs.Claims.{AcceptsExactly}
use Rattle.laws.proofs.Directory.{hosted-listed, set_words, words-set}
use Rattle.laws.proofs.Sizes.{layout, slots-fit, slots-free}
use Rattle.laws.proofs.Refusals.{AllPass, all_pass, refuse-none, refuse_at-none, not_none, good-below, below-good}
use Rattle.laws.proofs.Appends.{has_room, passed, wrote}
use Rattle.laws.proofs.Places.{no_place, place_none}
use Rattle.laws.proofs.Decisions.{commit-entry}
use Rattle.claims.proofs.Terms.{frame-words, words-frame, order-words, words-order, writes_aside, aside-writes, closed-words, words-closed, undecided-words, words-undecided}
use Rattle.claims.proofs.Stamps.{pointed-words, words-pointed}
use Rattle.claims.proofs.Names.{names-words, words-names}
use Rattle.claims.proofs.Words.{whole_words, words-whole, numbered-if, if-numbered, writes-words, words-writes, narrow-words, words-narrow, reads-words, words-reads, cells-words, words-cells, keys-words, words-keys}

-- ---- tests that pass

pass_all : (ts : List (Option Refusal)) → AllPass ts → first_of ts ≡ none
pass_all [] h = refl
pass_all (none ∷ ts) h = pass_all ts h.1
pass_all (some r ∷ ts) h = not_none r h.0

passing : (n : ℕ) (b : Bool) → b ≡ false → refuse n b ≡ none
passing n b e = ap (refuse n) e

module _ (log : Log) where
  open-words : (n : ℕ) → closed log n log.tail ≡ false → Committed log n log.tail → ⊥
  open-words n e c = clash (closed log n log.tail) (words-closed log n log.tail c) e

  words_open : (n : ℕ) → (Committed log n log.tail → ⊥) → closed log n log.tail ≡ false
  words_open n h = go (closed log n log.tail) refl
    where
      go : (b : Bool) → closed log n log.tail ≡ b → b ≡ false
      go true e = absurd (h (closed-words log n log.tail e))
      go false e = refl

-- ---- the tests of each append, in words

module _ (sh : Shape) (log : Log) where
  update-words : (n : ℕ) (items : List ℕ) → AllPass (own_tests sh log (update n items)) → UpdateAllowed sh log n items
  unfolding own_tests
  update-words n items t =
      let given : (not_whole items || not (ok_writes sh (writes_given items)) || not (fits 4 n)) ≡ false = refuse-none 3 _ t.0 in
      let w = writes-words sh (writes_given items) (not-false _ (search (ors, given))) in
      let small : fits 4 n ≡ true = not-false _ (search (ors, given)) in
      record {
        whole = whole_words write_at items (search (ors, given));
        number = ltb-true n (256 ^ 4) small;
        some = w.0;
        few = w.1;
        each = w.2;
        narrow = narrow-words sh (writes_given items) (λ w. Memᴰ w (writes_given items)) (λ w m. m) (not-false _ (refuse-none 5 _ t.1.0));
        uncommitted = λ d. open-words log n (numbered-if n _ (refuse-none 4 _ t.1.1.0) d);
        together = λ d. narrow-words sh (writes_of log n log.tail ++ writes_given items) _
            (λ w m. ⊎_elim (λ s. Memᴰ.append_left (writes_given items) (aside-writes log n log.tail w s)) (λ i. Memᴰ.append_right (writes_of log n log.tail) i) m)
            (not-false _ (numbered-if n _ (refuse-none 5 _ t.1.1.1.0) d));
      }

  words-update : (n : ℕ) (items : List ℕ) → UpdateAllowed sh log n items → log.tail < slots sh.layout log → AllPass (own_tests sh log (update n items))
  unfolding own_tests
  words-update n items a free = (
    passing 3 _ given,
    (passing 5 _ thin, (passing 4 _ still_open, (passing 5 _ together, (passing 9 _ (lt-leb (slots sh.layout log) log.tail free), tt)))),
  )
    where
      given : (not_whole items || not (ok_writes sh (writes_given items)) || not (fits 4 n)) ≡ false
      given =
          neither (neither (words-whole write_at items a.whole) (ap not (words-writes sh (writes_given items) a.some a.few a.each)))
          (ap not (lt-ltb n (256 ^ 4) a.number))

      thin : not (narrow sh (writes_given items)) ≡ false
      thin = ap not (words-narrow sh (writes_given items) (λ w. Memᴰ w (writes_given items)) (λ w m. m) a.narrow)

      still_open : if_numbered n (closed log n log.tail) ≡ false
      still_open = if-numbered n _ (λ d. words_open log n (a.uncommitted d))

      all-thin : (n ≡ 0 → ⊥) → narrow sh (writes_of log n log.tail ++ writes_given items) ≡ true
      all-thin d = words-narrow sh (writes_of log n log.tail ++ writes_given items) (λ w. SetAside log n log.tail w ⊎ Memᴰ w (writes_given items))
          (λ w m. ⊎_elim (λ i. inl (writes_aside log n log.tail w i)) (λ i. inr i) (Memᴰ.append_cases (writes_of log n log.tail) m)) (a.together d)

      together : if_numbered n (not (narrow sh (writes_of log n log.tail ++ writes_given items))) ≡ false
      together = if-numbered n _ (λ d. ap not (all-thin d))

  -- a number has writes
  some-write : (ws : List Write) → is_empty ws ≡ false → (w : Write) × Memᴰ w ws
  some-write [] e = clash true refl e
  some-write (w ∷ ws) e = (w, Memᴰ.head refl)

  write-some : (ws : List Write) (w : Write) → Memᴰ w ws → is_empty ws ≡ false
  write-some [] w m = absurd (Memᴰ.not-nil m)
  write-some (v ∷ ws) w m = refl

  -- the tests of a commit before 16
  abbrev pub bad_commit : ℕ → List ℕ → ℕ → ℕ → Bool
  bad_commit n items a b = not_whole items || not (ok_reads sh log.tail (reads_given items)) || not (ok_number n) || not (ok_names n (condition_given items a b))

  pub asked-words : (n : ℕ) (items : List ℕ) (a b : ℕ) → bad_commit n items a b ≡ false → closed log n log.tail ≡ false → is_empty (writes_of log n log.tail) ≡ false
      → CommitAsked sh log n (condition_given items a b) items
  asked-words n items a b given still_open some-writes =
      let r = reads-words sh log.tail (reads_given items) (not-false _ (search (ors, given))) in
      let number : ok_number n ≡ true = not-false _ (search (ors, given)) in
      let some : n ≡ 0 → ⊥ = eqb-false n 0 (not-true _ (search ands)) in
      let (w, m) = some-write (writes_of log n log.tail) some-writes in
      record {
        whole = whole_words read_at items (search (ors, given));
        number = (omega arith, ltb-true n (256 ^ 4) (search ands));
        few = r.0;
        each = r.1;
        ascend = r.2;
        names = names-words n (condition_given items a b) (not-false _ (search (ors, given)));
        uncommitted = open-words log n still_open;
        updated = (w, writes_aside log n log.tail w m);
      }

  pub words-asked : (n : ℕ) (items : List ℕ) (c d : ℕ) → CommitAsked sh log n (condition_given items c d) items
      → (bad_commit n items c d ≡ false) × (closed log n log.tail ≡ false) × (is_empty (writes_of log n log.tail) ≡ false)
  words-asked n items c d a = (given, words_open log n a.uncommitted, updated)
    where
      some : n ≡ 0 → ⊥
      some = omega (arith, a.number.0)

      given : bad_commit n items c d ≡ false
      given =
          neither (neither (neither (words-whole read_at items a.whole) (ap not (words-reads sh log.tail (reads_given items) a.few a.each a.ascend)))
          (ap not (both (ap not (ne_eqb n 0 some)) (lt-ltb n (256 ^ 4) a.number.1))))
          (ap not (words-names n (condition_given items c d) a.names))

      updated : is_empty (writes_of log n log.tail) ≡ false
      updated = let (w, s) = a.updated in write-some (writes_of log n log.tail) w (aside-writes log n log.tail w s)

  commit-words : (n : ℕ) (items : List ℕ) (a b : ℕ) → AllPass (own_tests sh log (commits n items a b)) → CommitAllowed sh log n (condition_given items a b) items
  unfolding own_tests
  commit-words n items a b t =
      let found = refuse_at-none 16 (first_place (astray log) (reads_given items)) t.1.1.1.0 in
      record {
        asked = asked-words n items a b (refuse-none 3 _ t.0) (refuse-none 4 _ t.1.0) (refuse-none 6 _ t.1.1.0);
        pointed = λ x m. pointed-words log x (no_place (astray log) (reads_given items) found x m);
      }

  words-commit : (n : ℕ) (items : List ℕ) (c d : ℕ) → CommitAllowed sh log n (condition_given items c d) items → log.tail < slots sh.layout log → AllPass (own_tests sh log (commits n items c d))
  unfolding own_tests
  words-commit n items c d a free =
      let (given, still_open, updated) = words-asked n items c d a.asked in
      let found : first_place (astray log) (reads_given items) ≡ none = place_none (astray log) (reads_given items) (λ x m. words-pointed log x (a.pointed x m)) in
      (passing 3 _ given, (passing 4 _ still_open, (passing 6 _ updated, (ap (refuse_at 16) found, (passing 9 _ (lt-leb (slots sh.layout log) log.tail free), tt)))))

  -- a commit record at an offset
  commit-there : (o : ℕ) → is_none (commit_at log o) ≡ false → (n : ℕ) × (c : Condition) × (log.entry o ≡ commit n c)
  commit-there o e = go (commit_at log o) refl e
    where
      go : (x : Option Commit) → commit_at log o ≡ x → is_none x ≡ false → (n : ℕ) × (c : Condition) × (log.entry o ≡ commit n c)
      go none i j = clash true refl j
      go (some c) i j = (c.number, c.condition, commit-entry log o c i)

  outcome-words : (v : ℕ) → ok_outcome v ≡ true → (v ≡ 1) ⊎ (v ≡ 2)
  outcome-words v h = or_case (eqb v 1) (eqb v 2) h (λ e. inl (eqb-true v 1 e)) (λ e. inr (eqb-true v 2 e))

  words-outcome : (v : ℕ) → (v ≡ 1) ⊎ (v ≡ 2) → ok_outcome v ≡ true
  words-outcome v (inl e) = rw e
  words-outcome v (inr e) = rw e

  decision-words : (o v : ℕ) → AllPass (own_tests sh log (decides o v)) → DecisionAllowed log o v
  unfolding own_tests
  decision-words o v t =
      let given : (leb log.tail o || not (ok_outcome v)) ≡ false = refuse-none 3 _ t.0 in
      record {
        below = leb-false log.tail o (search (ors, given));
        outcome = outcome-words v (not-false _ (search (ors, given)));
        commits = commit-there o (refuse-none 7 _ t.1.0);
        undecided = undecided-words log o log.tail (not-false _ (refuse-none 8 _ t.1.1.0));
      }

  words-decision : (o v : ℕ) → DecisionAllowed log o v → log.tail < slots sh.layout log → AllPass (own_tests sh log (decides o v))
  unfolding own_tests
  words-decision o v a free = (
    passing 3 _ (neither (lt-leb log.tail o a.below) (ap not (words-outcome v a.outcome))),
    (passing 7 _ a-commit, (passing 8 _ undecided, (passing 9 _ (lt-leb (slots sh.layout log) log.tail free), tt))),
  )
    where
      a-commit : is_none (commit_at log o) ≡ false
      a-commit = let (n, c, e) = a.commits in rw e

      undecided : not (is_none (decided log o log.tail)) ≡ false
      undecided = ap not (words-undecided log o log.tail a.undecided)

  checkpoint-words : (r : Replica) (table : List ℕ) (o : ℕ) → AllPass (own_tests sh log (saves r table o)) → CheckpointAllowed sh log r table o
  unfolding own_tests
  checkpoint-words r table o t =
      let record-ok : bad_replica sh log.tail r table ≡ false = refuse-none 10 _ t.0 in
      let given : (is_object sh o && mem o (hosted sh r.hosting) && all (ok_saved sh log.tail o) (saved_given r table o)) ≡ true = not-false _ (refuse-none 3 _ t.1.0) in
      let up : r.position ≤ log.tail = ltb-false log.tail r.position (search (ors, record-ok)) in
      let down : log.tail ≤ r.position = ltb-false r.position log.tail (refuse-none 14 _ t.1.1.0) in
      record {
        hosting = (set_words sh r.hosting (search (ors, record-ok))).0;
        listed = (set_words sh r.hosting (search (ors, record-ok))).1;
        counted = ltb-false (capacity table) r.count (search (ors, record-ok));
        ordered = order-words (cells_of table r.count) (not-false (in_order (cells_of table r.count)) (search (ors, record-ok)));
        there = omega arith;
        hosts = search (ands, given);
        each = cells-words sh log.tail o (cells_of table r.count) (search (ands, given));
        few = keys-words sh.layout.items o (cells_of table r.count) (ltb-false sh.layout.items _ (refuse-none 13 _ t.1.1.1.0));
      }

  words-checkpoint : (r : Replica) (table : List ℕ) (o : ℕ) → CheckpointAllowed sh log r table o → log.tail < slots sh.layout log → AllPass (own_tests sh log (saves r table o))
  unfolding own_tests is_object hosted
  words-checkpoint r table o a free = (
    passing 10 _ record-ok,
    (passing 3 _ (ap not given), (passing 14 _ behind, (passing 13 _ few, (passing 9 _ (lt-leb (slots sh.layout log) log.tail free), tt)))),
  )
    where
      cells : List Cell
      cells = cells_of table r.count

      record-ok : bad_replica sh log.tail r table ≡ false
      record-ok =
          neither (neither (neither (words-set sh r.hosting a.hosting a.listed) (le-ltb (capacity table) r.count a.counted))
          (ap not (words-order cells a.ordered)))
          (le-ltb log.tail r.position (omega (arith, a.there)))

      given : (is_object sh o && mem o (hosted sh r.hosting) && all (ok_saved sh log.tail o) (saved_given r table o)) ≡ true
      given = both (both (hosted-listed o sh.objects r.hosting a.hosts) a.hosts) (words-cells sh log.tail o cells a.each)

      behind : ltb r.position log.tail ≡ false
      behind = le-ltb r.position log.tail (omega (arith, a.there))

      few : ltb sh.layout.items (length (saved_given r table o)) ≡ false
      few = le-ltb sh.layout.items _ (words-keys sh.layout.items o cells a.few)

  -- ---- all of them

  own-words : (q : Request) → AllPass (own_tests sh log q) → Allowed sh log q
  own-words (update n items) t = update-words n items t
  own-words (commits n items a b) t = commit-words n items a b t
  own-words (decides o v) t = decision-words o v t
  own-words (saves r table o) t = checkpoint-words r table o t

  words-own : (q : Request) → Allowed sh log q → log.tail < slots sh.layout log → AllPass (own_tests sh log q)
  words-own (update n items) a free = words-update n items a free
  words-own (commits n items c d) a free = words-commit n items c d a free
  words-own (decides o v) a free = words-decision o v a free
  words-own (saves r table o) a free = words-checkpoint r table o a free

module _ (sh : Shape) (shape : ok_shape sh ≡ true) (l : Lent) (q : Request) where
  accepted-words : Accepted sh l q → Unstopped sh l q
  unfolding log_in
  accepted-words taken =
      let t = all_pass (frame_and_entries sh (in_log sh l) ++ own_tests sh (in_log sh l) q) (passed sh l.bytes l.tail q taken) in
      record {
        directed = refuse_at-none 15 sh.fault t.0;
        framed = frame-words sh l (refuse-none 1 (bad_frame sh.layout (in_log sh l)) t.1.0);
        good = good-below sh (in_log sh l) (refuse_at-none 2 (lowest_bad sh (in_log sh l)) t.1.1.0);
        free = slots-fit sh.layout.slot_size l.tail (length l.bytes) (has_room sh (in_log sh l) q t.1.1.1);
        allowed = own-words sh (in_log sh l) q t.1.1.1;
      }

  words-accepted : Unstopped sh l q → Accepted sh l q
  unfolding log_in
  words-accepted u =
      let good : lowest_bad sh (in_log sh l) ≡ none = below-good sh (in_log sh l) u.good in
      let free : l.tail < length l.bytes / sh.layout.slot_size = slots-free sh.layout.slot_size l.tail (length l.bytes) (omega (arith, (layout sh shape).room)) u.free in
      let t : append_refusal sh (in_log sh l) q ≡ none = pass_all (frame_and_entries sh (in_log sh l) ++ own_tests sh (in_log sh l) q)
      (ap (refuse_at 15) u.directed, (passing 1 (bad_frame sh.layout (in_log sh l)) (words-frame sh shape l u.framed), (ap (refuse_at 2) good, words-own sh (in_log sh l) q u.allowed free))) in
      ap (λ a. is_refused a.new_tail) (wrote sh l.bytes l.tail q t)

pub accepts-exactly : (sh : Shape) → ok_shape sh ≡ true → AcceptsExactly sh
accepts-exactly sh shape l q = (accepted-words sh shape l q, words-accepted sh shape l q)
