-- The tests of what is given to an append, and their words: a whole number of items, allowed writes, reads and saved cells, and
-- few objects. Each test passes exactly where its words hold; few objects by the law that an ascending list is no longer than a
-- list that has its members.
use Prim.Native.Nat.{ℕ, ◌*◌, ◌/◌, ◌%◌, ◌^◌, ◌<◌, ◌≤◌}
use mathlib.Core.Path.{◌≡◌, refl, ap, sym, ◌∙◌}
use mathlib.Core.Logic.{◌⊎◌, inl, inr}
use mathlib.Core.Bool.{Bool, true, false, not, ◌&&◌, ◌||◌}
use mathlib.Core.List.{List, [], ◌∷◌, Memᴰ}
use mathlib.Core.Option.{Option, none, some}
use native.Mathlib.Omega.{arith}
use borrow.Author.Tests.{eqb-true, eqb-false, eq-eqb, ne_eqb, ltb-true, lt-ltb, leb-true, le-leb, not-false}
use lib.Dec.{eqb, ltb}
use lib.ListN.{length, length-map}
use Rattle.lists.specs.Tests.{ands, and_l, and_r, both, or_case, clash}
use Rattle.lists.specs.Rows.{length-values}
use Rattle.lists.specs.Sets.{all, is_empty, mem, ascending, ascending_set, mem-set}
use Rattle.lists.specs.Members.{all_in, in_all, mem-map, map-mem}
use Rattle.model.specs.Objects.{Shape, is_cell}
use Rattle.model.specs.Entries.{Write, Read, Held, Saved, written_objects}
use Rattle.model.specs.Slot.{value_field, item_size}
use Rattle.model.specs.Rules.{fits, ok_write, ok_writes, narrow, read_before, ok_read, ok_reads, ok_saved}
use Rattle.model.specs.Table.{Cell, lookup, saved_of}
use Rattle.model.specs.Append.{items_given, not_whole, if_numbered}
use Rattle.model.specs.Terms.{AtMost, Writes, Ascend, Saves}
use Rattle.laws.proofs.Appends.{saved-ascends}
use Rattle.claims.proofs.Few.{ascending-few, few-numbers}
use Rattle.claims.proofs.Saved.{saved-for, saved_as, keys_of, all-for, for-all, held-key, key-held, keys-ascend}

-- ---- items

module _ {A : Type 0} (get : List ℕ → ℕ → A) (items : List ℕ) where
  many : length (items_given get items) ≡ length items / item_size
  many = length-values (λ i. get items (item_size * i)) 0 (length items / item_size)

  pub whole_words : not_whole items ≡ false → length items ≡ item_size * length (items_given get items)
  whole_words e = let z : length items % item_size ≡ 0 = eqb-true _ 0 (not-false _ e) in omega (arith, many)

  pub words-whole : length items ≡ item_size * length (items_given get items) → not_whole items ≡ false
  words-whole h = let z : length items % item_size ≡ 0 = omega (arith, many) in ap not (eq-eqb (length items % item_size) 0 z)

-- ---- a test of a transaction number's own

pub numbered-if : (n : ℕ) (b : Bool) → if_numbered n b ≡ false → (n ≡ 0 → ⊥) → b ≡ false
numbered-if n b h d = rw (ne_eqb n 0 d) at h

pub if-numbered : (n : ℕ) (b : Bool) → ((n ≡ 0 → ⊥) → b ≡ false) → if_numbered n b ≡ false
if-numbered n b h = go (eqb n 0) refl
  where
    go : (t : Bool) → eqb n 0 ≡ t → (not t && b) ≡ false
    go true e = refl
    go false e = h (eqb-false n 0 e)

module _ (sh : Shape) where
  -- ---- writes

  write-words : (w : Write) → ok_write sh w ≡ true → Writes sh w
  unfolding ok_write
  write-words w h =
      let o : (eqb w.operation 1 || (eqb w.operation 2 && eqb w.value 0)) ≡ true = search ands in
      let f : ltb w.value (256 ^ 4) ≡ true = search ands in
      record {
        cell = search ands;
        operation = or_case (eqb w.operation 1) (eqb w.operation 2 && eqb w.value 0) o (λ e. inl (eqb-true w.operation 1 e))
            (λ e. inr (eqb-true w.operation 2 (and_l (eqb w.operation 2) (eqb w.value 0) e), eqb-true w.value 0 (and_r (eqb w.operation 2) (eqb w.value 0) e)));
        small = ltb-true w.value (256 ^ 4) f;
      }

  words-write : (w : Write) → Writes sh w → ok_write sh w ≡ true
  unfolding ok_write
  words-write w a = both (both a.cell (operation a.operation)) (lt-ltb w.value (256 ^ 4) a.small)
    where
      operation : (w.operation ≡ 1) ⊎ ((w.operation ≡ 2) × (w.value ≡ 0)) → (eqb w.operation 1 || (eqb w.operation 2 && eqb w.value 0)) ≡ true
      operation (inl e) = rw e
      operation (inr (e, z)) = rw (e, z)

  some-writes : (ws : List Write) → not (is_empty ws) ≡ true → 1 ≤ length ws
  some-writes [] h = clash false h refl
  some-writes (w ∷ ws) h = omega arith

  writes-some : (ws : List Write) → 1 ≤ length ws → not (is_empty ws) ≡ true
  writes-some [] h = absurd (omega arith)
  writes-some (w ∷ ws) h = refl

  pub writes-words : (ws : List Write) → ok_writes sh ws ≡ true
      → (1 ≤ length ws) × (length ws ≤ sh.layout.items) × ((w : Write) → Memᴰ w ws → Writes sh w)
  unfolding ok_writes
  writes-words ws h =
      let a : all (ok_write sh) ws ≡ true = search ands in
      (some-writes ws (search ands), leb-true (length ws) sh.layout.items (search ands), λ w m. write-words w (all_in (ok_write sh) ws a w m))

  pub words-writes : (ws : List Write) → 1 ≤ length ws → length ws ≤ sh.layout.items → ((w : Write) → Memᴰ w ws → Writes sh w) → ok_writes sh ws ≡ true
  unfolding ok_writes
  words-writes ws s l h = both (both (writes-some ws s) (le-leb (length ws) sh.layout.items l)) (in_all (ok_write sh) ws (λ w m. words-write w (h w m)))

  -- the writes that are made are those of a list
  module _ (ws : List Write) (Made : Write → Type 0) where
    pub narrow-words : ((w : Write) → Made w → Memᴰ w ws) → narrow sh ws ≡ true → AtMost sh.layout.headers Made
    unfolding narrow
    narrow-words made h = (
      ascending_set (written_objects ws),
      leb-true (length (ascending_set (written_objects ws))) sh.layout.headers h,
      λ w m. mem-set w.object (written_objects ws) ∙ map-mem (λ (w : Write). w.object) w.object w ws (made w m) refl,
    )

    pub words-narrow : ((w : Write) → Memᴰ w ws → Made w) → AtMost sh.layout.headers Made → narrow sh ws ≡ true
    unfolding narrow
    words-narrow made (os, l, h) = le-leb (length (ascending_set (written_objects ws))) sh.layout.headers (few-numbers sh.layout.headers (written_objects ws) os l (λ x m. there x m))
      where
        there : (x : ℕ) → mem x (written_objects ws) ≡ true → mem x os ≡ true
        there x m = let (w, i, e) = mem-map (λ (w : Write). w.object) x ws m in ap (λ (y : ℕ). mem y os) (sym e) ∙ h w (made w i)

  -- ---- reads

  before-words : (r s : Read) → read_before r s ≡ true → (r.object < s.object) ⊎ ((r.object ≡ s.object) × (r.key < s.key))
  before-words r s h =
      or_case (ltb r.object s.object) (eqb r.object s.object && ltb r.key s.key) h (λ e. inl (ltb-true r.object s.object e))
      (λ e. inr (eqb-true r.object s.object (and_l (eqb r.object s.object) (ltb r.key s.key) e), ltb-true r.key s.key (and_r (eqb r.object s.object) (ltb r.key s.key) e)))

  words-before : (r s : Read) → (r.object < s.object) ⊎ ((r.object ≡ s.object) × (r.key < s.key)) → read_before r s ≡ true
  words-before r s (inl l) = rw (lt-ltb r.object s.object l)
  words-before r s (inr (e, l)) = go (ltb r.object s.object)
    where
      go : (b : Bool) → (b || (eqb r.object s.object && ltb r.key s.key)) ≡ true
      go true = refl
      go false = both (eq-eqb r.object s.object e) (lt-ltb r.key s.key l)

  ascend-words : (rs : List Read) → ascending read_before rs ≡ true → Ascend rs
  ascend-words [] h = tt
  ascend-words (r ∷ []) h = tt
  ascend-words (r ∷ s ∷ rs) h =
      (before-words r s (and_l (read_before r s) (ascending read_before (s ∷ rs)) h), ascend-words (s ∷ rs) (and_r (read_before r s) (ascending read_before (s ∷ rs)) h))

  words-ascend : (rs : List Read) → Ascend rs → ascending read_before rs ≡ true
  words-ascend [] a = refl
  words-ascend (r ∷ []) a = refl
  words-ascend (r ∷ s ∷ rs) a = both (words-before r s a.0) (words-ascend (s ∷ rs) a.1)

  module _ (p : ℕ) where
    abbrev ReadAllowed : Read → Type 0
    ReadAllowed x = (is_cell sh x.object x.key ≡ true) × (x.version ≤ p)

    read-words : (x : Read) → ok_read sh p x ≡ true → ReadAllowed x
    unfolding ok_read
    read-words x h = (search ands, leb-true x.version p (search ands))

    words-read : (x : Read) → ReadAllowed x → ok_read sh p x ≡ true
    unfolding ok_read
    words-read x a = both a.0 (le-leb x.version p a.1)

    pub reads-words : (rs : List Read) → ok_reads sh p rs ≡ true → (length rs ≤ sh.layout.items) × ((x : Read) → Memᴰ x rs → ReadAllowed x) × Ascend rs
    unfolding ok_reads
    reads-words rs h =
        let a : all (ok_read sh p) rs ≡ true = search ands in
        (leb-true (length rs) sh.layout.items (search ands), λ x m. read-words x (all_in (ok_read sh p) rs a x m), ascend-words rs (search ands))

    pub words-reads : (rs : List Read) → length rs ≤ sh.layout.items → ((x : Read) → Memᴰ x rs → ReadAllowed x) → Ascend rs → ok_reads sh p rs ≡ true
    unfolding ok_reads
    words-reads rs l h a = both (both (le-leb (length rs) sh.layout.items l) (in_all (ok_read sh p) rs (λ x m. words-read x (h x m)))) (words-ascend rs a)

  -- ---- the cells of a checkpoint

  module _ (p o : ℕ) where
    saved-words : (k : ℕ) (h : Held) → ok_saved sh p o (saved_as k h) ≡ true → Saves sh p o k h
    unfolding ok_saved
    saved-words k h e =
        let f : fits 4 (value_field h.content) ≡ true = search ands in
        record {
          cell = search ands;
          written = leb-true 1 h.version (search ands);
          past = leb-true h.version p (search ands);
          small = λ v i. ltb-true v (256 ^ 4) (sym (ap (λ (x : Option ℕ). fits 4 (value_field x)) i) ∙ f);
        }

    words-saved : (k : ℕ) (h : Held) → Saves sh p o k h → ok_saved sh p o (saved_as k h) ≡ true
    unfolding ok_saved
    words-saved k h a = both (both (both a.cell (le-leb 1 h.version a.written)) (le-leb h.version p a.past)) (fit h.content a.small)
      where
        fit : (x : Option ℕ) → ((v : ℕ) → x ≡ some v → v < 2 ^ 32) → fits 4 (value_field x) ≡ true
        fit none s = refl
        fit (some v) s = lt-ltb v (256 ^ 4) (s v refl)

    module _ (cells : List Cell) where
      pub cells-words : all (ok_saved sh p o) (saved_of o cells) ≡ true → (k : ℕ) (h : Held) → lookup cells o k ≡ some h → Saves sh p o k h
      cells-words a k h e = saved-words k h (all-for (ok_saved sh p o) (saved_of o cells) k h a (saved-for o cells k ∙ e))

      pub words-cells : ((k : ℕ) (h : Held) → lookup cells o k ≡ some h → Saves sh p o k h) → all (ok_saved sh p o) (saved_of o cells) ≡ true
      words-cells t =
          for-all (ok_saved sh p o) (saved_of o cells) (saved-ascends o cells) (λ k h e. words-saved k h (t k h (sym (saved-for o cells k) ∙ e)))

-- the keys of a checkpoint are few
abbrev pub FewKeys : ℕ → ℕ → List Cell → Type 0
FewKeys n o cells = (ks : List ℕ) × (length ks ≤ n) × ((k : ℕ) (h : Held) → lookup cells o k ≡ some h → mem k ks ≡ true)

module _ (n o : ℕ) (cells : List Cell) where
  size : length (keys_of (saved_of o cells)) ≡ length (saved_of o cells)
  size = length-map (saved_of o cells) (λ (c : Saved). c.key)

  pub keys-words : length (saved_of o cells) ≤ n → FewKeys n o cells
  keys-words l = (keys_of (saved_of o cells), omega (arith, size), λ k h e. held-key (saved_of o cells) k h (saved-for o cells k ∙ e))

  pub words-keys : FewKeys n o cells → length (saved_of o cells) ≤ n
  words-keys (ks, l, t) =
      omega (arith, size, ascending-few (keys_of (saved_of o cells)) ks (keys-ascend (saved_of o cells) (saved-ascends o cells)) (λ k m. there k m))
    where
      there : (k : ℕ) → mem k (keys_of (saved_of o cells)) ≡ true → mem k ks ≡ true
      there k m = let (h, e) = key-held (saved_of o cells) k m in t k h (sym (saved-for o cells k) ∙ e)
