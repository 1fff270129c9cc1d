-- Decisions owed: a commit record owes exactly where its words hold for a declared set, and the call answers the lowest such offset; since a play
-- waits at what a replica of its set is owed, none waits where nothing is owed; and a decision record, once appended, is there for good.
use Prim.Native.Nat.{ℕ, ◌-◌, ◌<◌, ◌≤◌}
use mathlib.Core.Path.{◌≡◌, refl, ap, sym, ◌∙◌}
use mathlib.Core.Bool.{Bool, true, false}
use mathlib.Core.List.{List, [], ◌∷◌, ◌++◌, Memᴰ}
use mathlib.Core.Option.{Option, none, some}
use native.Mathlib.Omega.{arith}
use borrow.Author.Tests.{eqb-true, eqb-false, ltb-false, le-ltb}
use lib.Dec.{eqb, ltb}
use lib.ListN.{length}
use Rattle.lists.specs.Tests.{or_l, or_r, neither, clash}
use Rattle.lists.specs.Sets.{any}
use Rattle.lists.specs.Members.{any-in, in-any}
use Rattle.model.specs.Objects.{Shape, hosted, bad_set}
use Rattle.model.specs.Entries.{Write, Entry, plain, numbered, commit, decision, checkpoint, blank, Log}
use Rattle.model.specs.Slot.{log_in, ok_shape}
use Rattle.model.specs.Rules.{lowest, lowest_bad}
use Rattle.model.specs.Table.{cells_of, capacity}
use Rattle.model.specs.Play.{Played, going, waits, lacks, waits_at}
use Rattle.model.specs.Answers.{Refusal, Answer, done, refused, refuse, refuse_at, first_of, answer, bad_frame, frame_and_entries}
use Rattle.model.specs.Reading.{most_sets, bad_sets, owes, owed}
use Rattle.model.specs.Append.{bad_replica, Request, decides, decision_of, entry_of}
use Rattle.model.specs.Replica.{plainly, bad_stop, play_refusal, left_by, play_given, play_from, play_call}
use Rattle.model.specs.Histories.{Lent, in_log, is_refused, Accepted, after, grown}
use Rattle.model.specs.Terms.{SetAside, Decided, Blocked}
use Rattle.model.specs.OwedClaims.{NoneWaits, Owes, Declarable, GoodLog, OwesExactly, Pays}
use Rattle.model.specs.Worked.{code}
use Rattle.laws.proofs.Directory.{set_words, words-set}
use Rattle.laws.proofs.Agree.{Agree}
use Rattle.laws.proofs.Refusals.{all_pass, refuse-none, refuse_at-none, not_none, lowest-none, none-lowest, lowest-some, some-lowest, good-below, below-good}
use Rattle.claims.proofs.Terms.{frame-words, words-frame}
use Rattle.claims.proofs.Waits.{waits-words, words-waits, PlayWait, play-wait}
use Rattle.claims.proofs.Leaves.{own-number, neither-number}
use Rattle.claims.proofs.Histories.{Grew, accepted-grew, accepted-below, grown-longer}

-- ---- what owes, in words

module _ (sh : Shape) (log : Log) (sets : List ℕ) where
  owes-words : (q : ℕ) → owes sh log sets q ≡ true → Owes sh log sets q
  unfolding owes
  owes-words q h =
      let (set, m, w) = any-in (λ set. waits_at sh log (hosted sh set) q) sets h in
      record { set = set; declared = m; blocked = waits-words sh log (hosted sh set) q w }

  words-owes : (q : ℕ) → Owes sh log sets q → owes sh log sets q ≡ true
  unfolding owes
  words-owes q o = in-any (λ set. waits_at sh log (hosted sh set) q) o.set sets o.declared (words-waits sh log (hosted sh o.set) q o.blocked)

  owes-not : (q : ℕ) → owes sh log sets q ≡ false → Owes sh log sets q → ⊥
  owes-not q e o = clash (owes sh log sets q) (words-owes q o) e

  not-owes : (q : ℕ) → (Owes sh log sets q → ⊥) → owes sh log sets q ≡ false
  not-owes q h = go (owes sh log sets q) refl
    where
      go : (b : Bool) → owes sh log sets q ≡ b → b ≡ false
      go true e = absurd (h (owes-words q e))
      go false e = refl

-- ---- sets that may be declared

module _ (sh : Shape) (sets : List ℕ) where
  none-bad : any (bad_set sh) sets ≡ false → (set : ℕ) → Memᴰ set sets → bad_set sh set ≡ false
  none-bad e set m = go (bad_set sh set) refl
    where
      go : (b : Bool) → bad_set sh set ≡ b → b ≡ false
      go true i = clash (any (bad_set sh) sets) (in-any (bad_set sh) set sets m i) e
      go false i = refl

  bad-none : ((set : ℕ) → Memᴰ set sets → bad_set sh set ≡ false) → any (bad_set sh) sets ≡ false
  bad-none h = go (any (bad_set sh) sets) refl
    where
      go : (b : Bool) → any (bad_set sh) sets ≡ b → b ≡ false
      go true e = let (set, m, i) = any-in (bad_set sh) sets e in clash (bad_set sh set) i (h set m)
      go false e = refl

  sets-words : bad_sets sh sets ≡ false → Declarable sh sets
  unfolding bad_sets
  sets-words h =
      let good = none-bad (or_r (ltb most_sets (length sets)) (any (bad_set sh) sets) h) in
      record {
        few = ltb-false most_sets (length sets) (or_l (ltb most_sets (length sets)) (any (bad_set sh) sets) h);
        some = λ set m. (set_words sh set (good set m)).0;
        listed = λ set m. (set_words sh set (good set m)).1;
      }

  words-sets : Declarable sh sets → bad_sets sh sets ≡ false
  unfolding bad_sets
  words-sets d = neither (le-ltb most_sets (length sets) d.few) (bad-none (λ set m. words-set sh set (d.some set m) (d.listed set m)))

-- ---- the answer

-- the tests of the call, from what each finds
abbrev tests : Option ℕ → Bool → Option ℕ → Bool → List (Option Refusal)
tests fault frame bad sets = refuse_at 15 fault ∷ refuse 1 frame ∷ refuse_at 2 bad ∷ refuse 3 sets ∷ []

abbrev bad-request : Refusal
bad-request = record { number = 3; told = none }

abbrev number_in : Option Refusal → ℕ
number_in none = 0
number_in (some r) = r.number

-- 3 is answered by the last of them, where the others pass
three : (fault : Option ℕ) (frame : Bool) (bad : Option ℕ) (sets : Bool) → first_of (tests fault frame bad sets) ≡ some bad-request
    → (fault ≡ none) × (frame ≡ false) × (bad ≡ none) × (sets ≡ true)
three (some k) f b s e = let z : ◌≡◌ {A = ℕ} 15 3 = ap number_in e in absurd (omega arith)
three none true b s e = let z : ◌≡◌ {A = ℕ} 1 3 = ap number_in e in absurd (omega arith)
three none false (some p) s e = let z : ◌≡◌ {A = ℕ} 2 3 = ap number_in e in absurd (omega arith)
three none false none true e = (refl, refl, refl, refl)
three none false none false e = not_none bad-request (sym e)

module _ {A : Type 0} (a : A) where
  abbrev or_else : A → Answer A → A
  or_else d (done x) = x
  or_else d (refused r) = d

  answered : (x : Option Refusal) (b : A) → answer x a ≡ done b → (x ≡ none) × (a ≡ b)
  answered none b e = (refl, ap (or_else a) e)
  answered (some r) b e = clash true refl (ap is_refused e)

  abbrev refusal_in : Answer A → Option Refusal
  refusal_in (done x) = none
  refusal_in (refused r) = some r

  turned : (x : Option Refusal) (r : Refusal) → answer x a ≡ refused r → x ≡ some r
  turned none r e = clash true refl (ap is_refused (sym e))
  turned (some s) r e = ap refusal_in e

module _ (sh : Shape) (shape : ok_shape sh ≡ true) (l : Lent) (sets : List ℕ) where
  abbrev here : Log
  here = in_log sh l

  good-words : sh.fault ≡ none → bad_frame sh.layout here ≡ false → lowest_bad sh here ≡ none → GoodLog sh l
  unfolding log_in
  good-words d f b = record { directed = d; framed = frame-words sh l f; good = good-below sh here b }

  passing : GoodLog sh l → (bad : Bool) → bad_sets sh sets ≡ bad → first_of (frame_and_entries sh here ++ (refuse 3 (bad_sets sh sets) ∷ [])) ≡ first_of (refuse 3 bad ∷ [])
  passing g bad e = λ i. first_of (tests (g.directed i) (words-frame sh shape l g.framed i) (below-good sh here g.good i) (e i))

  -- what the call found where it is done
  found : (x : Option ℕ) → owed sh here sets ≡ done x → GoodLog sh l × Declarable sh sets × (lowest (owes sh here sets) here.tail ≡ x)
  unfolding owed
  found x e =
      let (n, r) = answered (lowest (owes sh here sets) here.tail) _ x e in
      let ts = all_pass (tests sh.fault (bad_frame sh.layout here) (lowest_bad sh here) (bad_sets sh sets)) n in
      (good-words (refuse_at-none 15 _ ts.0) (refuse-none 1 _ ts.1.0) (refuse_at-none 2 _ ts.1.1.0), sets-words sh sets (refuse-none 3 _ ts.1.1.1.0), r)

  done-so : GoodLog sh l → Declarable sh sets → owed sh here sets ≡ done (lowest (owes sh here sets) here.tail)
  unfolding owed
  done-so g d = ap (λ (x : Option Refusal). answer x (lowest (owes sh here sets) here.tail)) (passing g false (words-sets sh sets d))

  lowest-words : (q : ℕ) → owed sh here sets ≡ done (some q)
      → GoodLog sh l × Declarable sh sets × (q < l.tail) × Owes sh here sets q × ((p : ℕ) → p < q → Owes sh here sets p → ⊥)
  unfolding log_in
  lowest-words q e =
      let (g, d, r) = found (some q) e in
      let (b, o, n) = lowest-some (owes sh here sets) here.tail q r in
      (g, d, b, owes-words sh here sets q o, λ p h. owes-not sh here sets p (n p h))

  words-lowest : (q : ℕ) → GoodLog sh l → Declarable sh sets → q < l.tail → Owes sh here sets q → ((p : ℕ) → p < q → Owes sh here sets p → ⊥) → owed sh here sets ≡ done (some q)
  unfolding log_in
  words-lowest q g d b o n =
      done-so g d ∙ ap (λ (x : Option ℕ). done x) (some-lowest (owes sh here sets) here.tail q b (words-owes sh here sets q o) (λ p h. not-owes sh here sets p (n p h)))

  nothing-words : owed sh here sets ≡ done none → GoodLog sh l × Declarable sh sets × ((q : ℕ) → q < l.tail → Owes sh here sets q → ⊥)
  unfolding log_in
  nothing-words e =
      let (g, d, r) = found none e in
      (g, d, λ q h. owes-not sh here sets q (lowest-none (owes sh here sets) here.tail r q h))

  words-nothing : GoodLog sh l → Declarable sh sets → ((q : ℕ) → q < l.tail → Owes sh here sets q → ⊥) → owed sh here sets ≡ done none
  unfolding log_in
  words-nothing g d n = done-so g d ∙ ap (λ (x : Option ℕ). done x) (none-lowest (owes sh here sets) here.tail (λ q h. not-owes sh here sets q (n q h)))

  three-words : owed sh here sets ≡ refused bad-request → GoodLog sh l × (Declarable sh sets → ⊥)
  unfolding owed
  three-words e =
      let (d, f, b, s) = three sh.fault (bad_frame sh.layout here) (lowest_bad sh here) (bad_sets sh sets) (turned (lowest (owes sh here sets) here.tail) _ bad-request e) in
      (good-words d f b, λ w. clash (bad_sets sh sets) s (words-sets sh sets w))

  words-three : GoodLog sh l → (Declarable sh sets → ⊥) → owed sh here sets ≡ refused bad-request
  unfolding owed
  words-three g n = ap (λ (x : Option Refusal). answer x (lowest (owes sh here sets) here.tail)) (passing g true (bad (bad_sets sh sets) refl))
    where
      bad : (b : Bool) → bad_sets sh sets ≡ b → b ≡ true
      bad true e = refl
      bad false e = absurd (n (sets-words sh sets e))

pub owes-exactly : (sh : Shape) → ok_shape sh ≡ true → OwesExactly sh
owes-exactly sh shape l sets = record {
  lowest = λ q. (lowest-words sh shape l sets q, λ w. words-lowest sh shape l sets q w.0 w.1 w.2 w.3 w.4);
  nothing = (nothing-words sh shape l sets, λ w. words-nothing sh shape l sets w.0 w.1 w.2);
  bad_request = (three-words sh shape l sets, λ w. words-three sh shape l sets w.0 w.1);
}

-- ---- where nothing is owed no replica waits

pub none-waits : (sh : Shape) → NoneWaits sh
unfolding owed owes play_call
none-waits sh log sets nothing r table stop declared h = go (play_refusal sh log r table stop) refl h
  where
    clear : (q : ℕ) → q < log.tail → waits_at sh log (hosted sh r.hosting) q ≡ true → ⊥
    clear q l w =
        let (n, e) = answered (lowest (owes sh log sets) log.tail) (first_of (frame_and_entries sh log ++ (refuse 3 (bad_sets sh sets) ∷ []))) none nothing in
        clash (owes sh log sets q) (in-any (λ set. waits_at sh log (hosted sh set) q) r.hosting sets declared w) (lowest-none (owes sh log sets) log.tail e q l)

    by : (x : Played) → PlayWait sh log (hosted sh r.hosting) (capacity table) r.position (stop - r.position) x → bad_stop log.tail r stop ≡ false
        → (left_by r.hosting stop table x).answer ≡ plainly 12 → ⊥
    by (going cs) w s e = let n : ◌≡◌ {A = ℕ} 0 12 = ap code e in omega arith
    by (lacks q cs) w s e = let n : ◌≡◌ {A = ℕ} 13 12 = ap code e in omega arith
    by (waits q cs) w s e =
        let top : stop ≤ log.tail = ltb-false log.tail stop (or_l (ltb log.tail stop) (ltb stop r.position) s) in
        let on : r.position ≤ stop = ltb-false stop r.position (or_r (ltb log.tail stop) (ltb stop r.position) s) in
        clear q (omega (arith, w.0)) w.1

    go : (x : Option Refusal) → play_refusal sh log r table stop ≡ x → (play_given r stop table (play_from sh log r table stop) x).answer ≡ plainly 12 → ⊥
    go none i e =
        let ts = all_pass (frame_and_entries sh log ++ (refuse 10 (bad_replica sh log.tail r table) ∷ refuse 3 (bad_stop log.tail r stop) ∷ [])) i in
        by (play_from sh log r table stop) (play-wait sh log (hosted sh r.hosting) (capacity table) r.position (cells_of table r.count) (stop - r.position))
        (refuse-none 3 _ ts.1.1.1.1.0) e
    go (some x) i e =
        neither-number x (own-number sh.fault (bad_frame sh.layout log) (lowest_bad sh log) (bad_replica sh log.tail r table) (bad_stop log.tail r stop) x i) 12
        (omega arith) (omega arith) (ap code e)

-- ---- a decision pays

-- two logs that agree below p
module _ (sh : Shape) (new old : Log) (p : ℕ) (agrees : Agree new old p) where
  aside-back : (n q : ℕ) (w : Write) → q ≤ p → SetAside new n q w → SetAside old n q w
  aside-back n q w l s = record { at = s.at; writes = s.writes; below = s.below; here = sym (agrees s.at (omega (arith, s.below))) ∙ s.here; one = s.one }

  decided-on : (q m : ℕ) → p ≤ m → Decided old q p → Decided new q m
  decided-on q m l (d, r, b, e, o) = (d, r, omega arith, agrees d b ∙ e, o)

  -- blocked in the new log, it was in the old
  blocked-back : (set : List ℕ) (q : ℕ) → q < p → old.tail ≡ p → p ≤ new.tail → Blocked sh new set q → Blocked sh old set q
  blocked-back set q l t h b =
      let (w, s, m) = b.concerns in
      record {
        number = b.number;
        condition = b.condition;
        here = sym (agrees q l) ∙ b.here;
        concerns = (w, aside-back b.number q w (omega arith) s, m);
        outside = b.outside;
        undecided = λ d. b.undecided (decided-on q new.tail h (rw t at d));
      }

abbrev is_commit : Entry → Bool
is_commit (plain ws) = false
is_commit (numbered n ws) = false
is_commit (commit n c) = true
is_commit (decision d) = false
is_commit (checkpoint o cs) = false
is_commit blank = false

module _ (sh : Shape) (shape : ok_shape sh ≡ true) (l : Lent) (o v : ℕ) (taken : Accepted sh l (decides o v)) (sets : List ℕ) where
  abbrev then : Lent
  then = after sh l (decides o v)

  entry-there : (in_log sh then).entry l.tail ≡ decision (decision_of (in_log sh l) o v)
  unfolding entry_of
  entry-there = (accepted-grew sh shape l (decides o v) taken).here

  pays-for-good : (later : List Request) → Owes sh (in_log sh (grown sh then later)) sets o → ⊥
  unfolding log_in
  pays-for-good later w =
      let up = grown-longer sh shape then later in
      let g = accepted-grew sh shape l (decides o v) taken in
      w.blocked.undecided (l.tail, decision_of (in_log sh l) o v, accepted-below sh shape l (decides o v) later taken, up.agrees l.tail (omega (arith, g.longer)) ∙ entry-there, refl)

  owed-before : (q : ℕ) → q < then.tail → Owes sh (in_log sh then) sets q → (q < l.tail) × Owes sh (in_log sh l) sets q
  unfolding log_in
  owed-before q h w = go (eqb q l.tail) refl
    where
      g : Grew sh l (decides o v)
      g = accepted-grew sh shape l (decides o v) taken

      less : (q ≡ l.tail → ⊥) → q < l.tail
      less d = omega (arith, g.longer)

      go : (b : Bool) → eqb q l.tail ≡ b → (q < l.tail) × Owes sh (in_log sh l) sets q
      go true e =
          clash true refl
          (sym (ap is_commit w.blocked.here) ∙ ap (λ (x : ℕ). is_commit ((in_log sh then).entry x)) (eqb-true q l.tail e) ∙ ap is_commit entry-there)
      go false e =
          let b = less (eqb-false q l.tail e) in (
            b,
            record {
              set = w.set;
              declared = w.declared;
              blocked = blocked-back sh (in_log sh then) (in_log sh l) l.tail g.below (hosted sh w.set) q b refl (omega (arith, g.longer)) w.blocked;
            },
          )

pub pays : (sh : Shape) → ok_shape sh ≡ true → Pays sh
pays sh shape l o v taken sets = record { paid = pays-for-good sh shape l o v taken sets; others = owed-before sh shape l o v taken sets }
