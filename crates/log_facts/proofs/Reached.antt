-- The depth that passes have reached never falls, and rises where a key leaves a table: kept by every legal entry.
use Rattle.std.specs.Prelude.{◌≡◌, ◌≢◌, ℕ, ◌+◌, ◌*◌, ◌%◌, ◌^◌, ◌<◌, ◌≤◌, Bool, true, false, List, [], ◌∷◌, Option, Some, None, ◌⊎◌, refl}
use Rattle.std.proofs.Common.{sym, ◌∙◌, ap, subst, inl, inr, arith, ⊎_elim}
use Rattle.std.proofs.lemmas.Bool.{cases_lt}
use Rattle.std.proofs.lemmas.Nat.{pow_pos, mod_below}
use Rattle.bucket_group.specs.ExitLevel.{exit_level}
use Rattle.bucket_group.proofs.ExitLaws.{exit-some, exit-below}
use Rattle.node_words.specs.Addresses.{first_table}
use Rattle.verb_log.specs.Decoded.{Header, PlainAt, SplittingAt, FillingAt, NoHeader, header}
use Rattle.verb_log.specs.Tables.{Past, Before, here, later}
use Rattle.verb_log.proofs.Positions.{Before-trans}
use Rattle.race_laws.specs.Setting.{Setting, hash, main_of}
use Rattle.race_laws.specs.Standing.{IsTable, bucket_in, child_in, key_header, depth, IsGone, Exits, Stays}
use Rattle.race_laws.specs.Chains as chains
use Rattle.race_laws.specs.Chains.{OnChain}
use Rattle.race_laws.specs.Looks.{Searched, InOrder, Passing, begins, goes_on, PassedBy}
use Rattle.race_laws.specs.Legal.{Legal}
use Rattle.race_laws.proofs.Positions.{legal_before}
use Rattle.race_laws.proofs.Covers.{table_before}
use Rattle.race_laws.proofs.SoundStep.{sound}
use Rattle.race_laws.proofs.Frames.{child_before, bucket_cases}
use Rattle.race_laws.proofs.Step.{BucketStep, begin, close, ripen_bucket}
use Rattle.race_laws.proofs.Finality.{deeper_on, bucket_keeps, bucket_gone_before}
use Rattle.race_laws.proofs.Splits.{new_table}
use Rattle.race_laws.proofs.Opening.{splits, opening_head_bucket, opening_birth_depth}
use Rattle.race_laws.proofs.Chain.{born_at, born_before, first_is_table, chain_table}
use Rattle.race_laws.proofs.Passes.{in_order_span, passing_span, key_gone, exits_before, exits_later}
use Rattle.log_facts.proofs.Heads.{gone_child}
use Rattle.log_facts.proofs.Keys.{main_below, gone_or_not}
use Rattle.log_facts.specs.Reached.{Down, starts, goes_down, Reached, Stayed, Deeper, Stuck}
use Rattle.log_facts.proofs.Buckets.{bucket_depth, new_bucket_is, bucket_from}

-- one table further down
pub record Next (s : Setting) (q : Past) (key : List ℕ) (t c : ℕ) : Type 0 where
  pub level : ℕ
  pub exits : Exits s q t key level
  pub gone : IsGone (key_header s q t key) level
  pub child : child_in s.geometry q t level ≡ c
  pub some : c ≢ 0

data Reach (s : Setting) (q : Past) (key : List ℕ) : ℕ → ℕ → Type 0 where
  one : (t c : ℕ) → Next s q key t c → Reach s q key t c
  more : (t c u : ℕ) → Next s q key t c → Reach s q key c u → Reach s q key t u

module _ (s : Setting) (q : Past) (l : Legal s q) (key : List ℕ) where
  abbrev first : ℕ
  first = first_table s.geometry (hash s key % 2 ^ s.geometry.first_depth)

  pub down_table : (t : ℕ) → Down s q key t → IsTable s.geometry q t
  down_table t starts = first_is_table s.geometry q (hash s key % 2 ^ s.geometry.first_depth) (mod_below (hash s key) (2 ^ s.geometry.first_depth) (pow_pos s.geometry.first_depth))
  down_table t (goes_down u i c k ex gone ch n) = ((splits s q l).born u i c (down_table u k) (exit-below (hash s key) (born_at s.geometry q u) i ex) ch n).table

  next_table : (t c : ℕ) → IsTable s.geometry q t → Next s q key t c → IsTable s.geometry q c
  next_table t c k f = ((splits s q l).born t f.level c k (exit-below (hash s key) (born_at s.geometry q t) f.level f.exits) f.child f.some).table

  next_born : (t c : ℕ) → IsTable s.geometry q t → (f : Next s q key t c) → born_at s.geometry q c ≡ f.level + 1
  next_born t c k f = ((splits s q l).born t f.level c k (exit-below (hash s key) (born_at s.geometry q t) f.level f.exits) f.child f.some).level

  next_deeper : (t c : ℕ) → IsTable s.geometry q t → Next s q key t c → born_at s.geometry q t < born_at s.geometry q c
  next_deeper t c k f = let b = next_born t c k f in let x = (exit-some (hash s key) (born_at s.geometry q t) f.level f.exits).from in omega arith

  next_same : (t c d : ℕ) → Next s q key t c → Next s q key t d → c ≡ d
  next_same t c d f g = sym f.child ∙ ap (child_in s.geometry q t) (level_same f.exits g.exits) ∙ g.child
    where
      level_same : {o : Option ℕ} {i j : ℕ} → o ≡ Some i → o ≡ Some j → i ≡ j
      level_same x y = cc

  reach_deeper : (t u : ℕ) → IsTable s.geometry q t → Reach s q key t u → born_at s.geometry q t < born_at s.geometry q u
  reach_deeper t u k (one t2 c f) = next_deeper t2 c k f
  reach_deeper t u k (more t2 c u2 f r) = let x = next_deeper t2 c k f in let y = reach_deeper c u2 (next_table t2 c k f) r in omega arith

  reach_on : (t u c : ℕ) → Reach s q key t u → Next s q key u c → Reach s q key t c
  reach_on t u c (one t2 u2 f) g = more t2 u2 c f (one u2 c g)
  reach_on t u c (more t2 d u2 f r) g = more t2 d c f (reach_on d u2 c r g)

  from_first : (t : ℕ) → Down s q key t → (t ≡ first) ⊎ Reach s q key first t
  from_first t starts = inl refl
  from_first t (goes_down u i c k ex gone ch n) =
      let f : Next s q key u c = record { level = i; exits = ex; gone = gone; child = ch; some = n } in
      inr (⊎_elim (λ (x : u ≡ first). subst (λ v. Reach s q key v c) x (one u c f)) (λ (x : Reach s q key first u). reach_on _ u c x f) (from_first u k))

  compare : (t u : ℕ) → Down s q key t → Down s q key u → (t ≡ u) ⊎ (Reach s q key t u ⊎ Reach s q key u t)
  compare t u starts k = ⊎_elim (λ (x : u ≡ first). inl (sym x)) (λ x. inr (inl x)) (from_first u k)
  compare t u (goes_down v i c k ex gone ch n) m =
      let f : Next s q key v c = record { level = i; exits = ex; gone = gone; child = ch; some = n } in
      ⊎_elim (λ (x : v ≡ u). inr (inr (subst (λ w. Reach s q key w c) x (one v c f))))
      (λ x. ⊎_elim (λ (y : Reach s q key v u). after v u c f y) (λ (y : Reach s q key u v). inr (inr (reach_on u v c y f))) x) (compare v u k m)
    where
      after : (v u c : ℕ) → Next s q key v c → Reach s q key v u → (c ≡ u) ⊎ (Reach s q key c u ⊎ Reach s q key u c)
      after v u c f (one v2 d g) = inl (next_same v2 c d f g)
      after v u c f (more v2 d u2 g r) = inr (inl (subst (λ w. Reach s q key w u2) (next_same v2 d c g f) r))

  -- where one table is deeper, the key is gone from the other
  pub down_order : (t u : ℕ) → Down s q key t → Down s q key u → born_at s.geometry q t < born_at s.geometry q u → (c : ℕ) × Next s q key t c × (born_at s.geometry q c ≤ born_at s.geometry q u)
  down_order t u k m e = ⊎_elim (λ (x : t ≡ u). let y = ap (born_at s.geometry q) x in absurd (omega arith))
      (λ x. ⊎_elim (λ (y : Reach s q key t u). by y k) (λ (y : Reach s q key u t). let z = reach_deeper u t (down_table u m) y in absurd (omega arith)) x) (compare t u k m)
    where
      by : {v w : ℕ} → Reach s q key v w → Down s q key v → (c : ℕ) × Next s q key v c × (born_at s.geometry q c ≤ born_at s.geometry q w)
      by (one v c f) k = (c, f, omega arith)
      by (more v c w f r) k = let z = reach_deeper c w (next_table v c (down_table v k) f) r in (c, f, omega arith)

  pub down_same : (t u : ℕ) → Down s q key t → Down s q key u → born_at s.geometry q t ≡ born_at s.geometry q u → t ≡ u
  down_same t u k m e = ⊎_elim (λ (x : t ≡ u). x)
      (λ x. ⊎_elim (λ (y : Reach s q key t u). let z = reach_deeper t u (down_table t k) y in absurd (omega arith))
      (λ (y : Reach s q key u t). let z = reach_deeper u t (down_table u m) y in absurd (omega arith)) x) (compare t u k m)

  -- a table on the chain is reached
  pub chain_down : (t : ℕ) → OnChain s.geometry q (hash s key) t → Down s q key t
  chain_down t chains.starts = starts
  chain_down t (chains.goes_on u i c k ex gone ch n) = goes_down u i c (chain_down u k) ex (key_gone s here l u i key (chain_table s q l (hash s key) u k) gone) ch n

  -- the depth of the key's header lies between that of the birth and the greatest
  pub key_depth : (t : ℕ) → IsTable s.geometry q t → (born_at s.geometry q t ≤ depth (key_header s q t key)) × (depth (key_header s q t key) ≤ s.geometry.max_depth)
  key_depth t h =
      let x = bucket_from s q l t (main_of s key) h (main_below s key) in
      let y = bucket_depth s q l t (main_of s key) h (main_below s key) in
      let z = (splits s q l).deep t h in
      (x, omega arith)

  -- at first
  pub reached_first : Reached s key q s.geometry.first_depth
  reached_first =
      let j = hash s key % 2 ^ s.geometry.first_depth in
      let low : j < 2 ^ s.geometry.first_depth = mod_below (hash s key) (2 ^ s.geometry.first_depth) (pow_pos s.geometry.first_depth) in
      let b : born_at s.geometry q first ≡ s.geometry.first_depth = born_before s (before_nothing q) l first (first_is_table s.geometry [] j low) ∙ opening_birth_depth s.geometry first (first_is_table s.geometry [] j low) in
      record {
        table = first;
        down = starts;
        deep = let k = (key_depth first (down_table first starts)).0 in omega arith;
        exits = λ i ex. let x = (exit-some (hash s key) (born_at s.geometry q first) i ex).from in omega arith;
      }
    where
      before_nothing : (z : Past) → Before [] z
      before_nothing [] = here
      before_nothing (e ∷ z) = later (before_nothing z)

  -- no more than the greatest depth
  pub reached_most : (d : ℕ) → Reached s key q d → d ≤ s.geometry.max_depth
  reached_most d r = let k = (key_depth r.table (down_table r.table r.down)).1 in let x = r.deep in omega arith

pub down_before : (s : Setting) (key : List ℕ) {p q : Past} → Before p q → Legal s q → (t : ℕ) → Down s p key t → Down s q key t
down_before s key b l t starts = starts
down_before s key {p = p} b l t (goes_down u i c k ex gone ch n) =
    let lp = legal_before s b l in
    let tb = down_table s p lp key u k in
    let e16 = exit-below (hash s key) (born_at s.geometry p u) i ex in
    goes_down u i c (down_before s key b l u k) (exits_later s b l u i key tb ex) (bucket_gone_before s b l u (main_of s key) i tb (main_below s key) gone)
    (child_before s b l u i tb e16 (λ z. n (sym ch ∙ z)) ∙ ch) n

-- it never falls
pub reached_before : (s : Setting) (key : List ℕ) {p q : Past} → Before p q → Legal s q → (d : ℕ) → Reached s key p d → Reached s key q d
reached_before s key {p = p} b l d r =
    let tb = down_table s p (legal_before s b l) key r.table r.down in
    record {
      table = r.table;
      down = down_before s key b l r.table r.down;
      deep = bucket_keeps s (λ v. d ≤ depth v) (λ h k g x. let y = deeper_on g in omega arith) b l r.table (main_of s key) tb (main_below s key) r.deep;
      exits = λ i ex. r.exits i (exits_before s b l r.table i key tb ex);
    }

-- where the key stays by a header, it leaves at no smaller level
stays_depth : (h : Header) (i : ℕ) → (IsGone h i → ⊥) → depth h ≤ i
stays_depth (PlainAt d) i f = ⊎_elim (λ (x : i < d). absurd (f x)) (λ (x : d ≤ i). x) (cases_lt i d)
stays_depth (SplittingAt d) i f = ⊎_elim (λ (x : i < d). absurd (f (omega arith))) (λ (x : d ≤ i). x) (cases_lt i d)
stays_depth (FillingAt d) i f = ⊎_elim (λ (x : i < d). absurd (f x)) (λ (x : d ≤ i). x) (cases_lt i d)
stays_depth NoHeader i f = omega arith

-- a pass ends at no smaller depth, and reaches that of its last header
module _ (s : Setting) (key : List ℕ) {p e : Past} (b : Before p e) (l : Legal s e) (t : ℕ) (k : Down s e key t) (st : Stays s e t key (key_header s e t key)) where
  pub stays_reached : Reached s key e (depth (key_header s e t key))
  stays_reached = record { table = t; down = k; deep = omega arith; exits = λ i ex. stays_depth (key_header s e t key) i (λ g. st i ex g) }

  pub no_less : (d : ℕ) → Reached s key p d → d ≤ depth (key_header s e t key)
  no_less d r0 =
      let r = reached_before s key b l d r0 in
      let tb = down_table s e l key t k in
      let born = (key_depth s e l key t tb).0 in
      ⊎_elim (λ (x : born_at s.geometry e t < born_at s.geometry e r.table). let n = (down_order s e l key t r.table k r.down x).1 in absurd (st n.level n.exits n.gone))
      (λ (x : born_at s.geometry e r.table ≤ born_at s.geometry e t).
      ⊎_elim (λ (y : born_at s.geometry e r.table < born_at s.geometry e t).
      let n = down_order s e l key r.table t r.down k y in
      let nb = next_born s e l key r.table n.0 (down_table s e l key r.table r.down) n.1 in
      let lo = r.exits n.1.level n.1.exits in
      let up = n.2 in omega arith)
      (λ (y : born_at s.geometry e t ≤ born_at s.geometry e r.table).
      let same = down_same s e l key r.table t r.down k (between (born_at s.geometry e r.table) (born_at s.geometry e t) x y) in
      subst (λ v. d ≤ depth (key_header s e v key)) same r.deep)
      (cases_lt (born_at s.geometry e r.table) (born_at s.geometry e t)))
      (cases_lt (born_at s.geometry e t) (born_at s.geometry e r.table))
    where
      between : (x y : ℕ) → x ≤ y → y ≤ x → x ≡ y
      between x y h m = omega arith

-- and where the key has left that table since, more is reached
pub left_deeper : (s : Setting) (key : List ℕ) {p e y : Past} → Before p e → Before e y → Legal s y → (t i : ℕ) → Down s e key t → Stays s e t key (key_header s e t key) → Exits s y t key i → IsGone (key_header s y t key) i → Deeper s key p y
left_deeper s key {p = p} {e = e} {y = y} b b2 l t i k st ex gone d r =
    let le = legal_before s b2 l in
    let te = down_table s e le key t k in
    let ty = table_before s.geometry b2 t t te in
    let low = (exit-some (hash s key) (born_at s.geometry y t) i ex).from in
    let e16 = exit-below (hash s key) (born_at s.geometry y t) i ex in
    let some = gone_child s y l t (main_of s key) i ty (main_below s key) e16 low gone in
    let born = (splits s y l).born t i (child_in s.geometry y t i) ty e16 refl some in
    let at = no_less s key b le t k st d r in
    let up = stays_depth (key_header s e t key) i (λ g. st i (exits_before s b2 l t i key te ex) g) in
    let kd = (key_depth s y l key (child_in s.geometry y t i) born.table).0 in
    let bl = born.level in
    record {
      table = child_in s.geometry y t i;
      down = goes_down t i (child_in s.geometry y t i) (down_before s key b2 l t k) ex gone refl some;
      deep = omega arith;
      exits = λ j ej. let x = (exit-some (hash s key) (born_at s.geometry y (child_in s.geometry y t i)) j ej).from in omega arith;
    }

-- the tables of a pass are reached
pub passing_down : (s : Setting) (key : List ℕ) (own : Option ℕ) (from : Past) (prev : Option Searched) (t : ℕ) (since : Past) → Legal s since → Passing InOrder s key own from prev t since → Down s since key t
passing_down s key own from prev t since l (begins u at b c f) = chain_down s since l key t c
passing_down s key own from prev t since l (goes_on v u from2 end seen i c k mi ex g ch n) =
    let b = in_order_span from2 seen since mi.stand in
    goes_down u i t (down_before s key b l u (passing_down s key own from v u from2 (legal_before s b l) k)) ex g ch n

pub deeper_before : (s : Setting) (key : List ℕ) (from : Past) {x y : Past} → Before x y → Legal s y → Deeper s key from x → Deeper s key from y
deeper_before s key from b l f d r = reached_before s key b l (d + 1) (f d r)

pub stayed_later : (s : Setting) (key : List ℕ) (from : Past) {x y : Past} → Before x y → (t : ℕ) → Stayed s key from x t → Stayed s key from y t
stayed_later s key from b t w = record { at = w.at; from_then = w.from_then; till = Before-trans w.till b; down = w.down; stays = w.stays }

-- the look that was clear ended where the key stayed
abbrev pub clear_stayed : (s : Setting) (key : List ℕ) (own : Option ℕ) (from q : Past) → Legal s q → (w : PassedBy InOrder s q from key own) → Stayed s key from q w.table
clear_stayed s key own from q l w =
    let since_end = in_order_span w.since w.seen w.end w.misses.stand in
    let le = legal_before s w.up_to l in
    let ls = legal_before s since_end le in
    record {
      at = w.end;
      from_then = Before-trans (passing_span InOrder in_order_span s key own from w.prev w.table w.since w.passing) since_end;
      till = w.up_to;
      down = down_before s key since_end le w.table (passing_down s key own from w.prev w.table w.since ls w.passing);
      stays = w.stays;
    }

-- a sweep that has seen the key gone reaches more
pub gone_deeper : (s : Setting) (key : List ℕ) (from : Past) {z y : Past} (t : ℕ) → Stayed s key from z t → Before z y → Legal s y → (i : ℕ) → Exits s y t key i → IsGone (key_header s y t key) i → Deeper s key from y
gone_deeper s key from t w b l i ex g = left_deeper s key w.from_then (Before-trans w.till b) l t i w.down w.stays ex g

-- a bucket header splits below the greatest depth alone
pub bucket_splits : (s : Setting) (q : Past) → Legal s q → (t n d : ℕ) → IsTable s.geometry q t → n < 2 * s.geometry.groups → bucket_in s.geometry q t n ≡ SplittingAt d → d < s.geometry.max_depth
bucket_splits s [] l t n d h m f = let y = opening_head_bucket s.geometry t h n m in absurd (cc)
bucket_splits s (e ∷ q) l t n d h m f = ⊎_elim
    (λ (x : IsTable s.geometry q t).
    ⊎_elim (λ (y : bucket_in s.geometry (e ∷ q) t n ≡ bucket_in s.geometry q t n). bucket_splits s q l.0 t n d x m (sym y ∙ f)) (λ y. by y.0 y.2) (bucket_cases s q e l.1 (sound s q l.0) t x n m))
    (λ x. let y = sym f ∙ new_bucket_is s q e l x.1 t n x.0 m in absurd (cc))
    (new_table s q e l.0 l.1 t h)
  where
    by : bucket_in s.geometry (e ∷ q) t n ≡ header e.new → BucketStep s q e t → d < s.geometry.max_depth
    by nw (begin c o w r) = same c (sym f ∙ nw ∙ w) (subst (λ v. v < s.geometry.max_depth) (ap depth (ap header (sym l.1.stands) ∙ o)) r.below)
      where
        same : (c : ℕ) → SplittingAt d ≡ SplittingAt c → c < s.geometry.max_depth → d < s.geometry.max_depth
        same c x h = let y : d ≡ c = ap depth x in omega arith
    by nw (close c o w r) = let z = sym f ∙ nw ∙ w in absurd (cc)
    by nw (ripen_bucket c o w r) = let z = sym f ∙ nw ∙ w in absurd (cc)

-- by its header a key leaves at a level below the greatest depth alone
gone_below : (s : Setting) (q : Past) → Legal s q → (key : List ℕ) (t i : ℕ) → IsTable s.geometry q t → IsGone (key_header s q t key) i → i < s.geometry.max_depth
gone_below s q l key t i h g = by (key_header s q t key) refl g
  where
    by : (v : Header) → key_header s q t key ≡ v → IsGone v i → i < s.geometry.max_depth
    by (PlainAt d) e g = let x = (key_depth s q l key t h).1 in let y = ap depth e in omega arith
    by (SplittingAt d) e g = let x = bucket_splits s q l t (main_of s key) d h (main_below s key) e in omega arith
    by (FillingAt d) e g = let x = (key_depth s q l key t h).1 in let y = ap depth e in omega arith
    by NoHeader e g = absurd g

pub stuck_before : (s : Setting) (key : List ℕ) {p q : Past} → Before p q → Legal s q → (t : ℕ) → Stuck s key p t → Stuck s key q t
stuck_before s key {p = p} b l t k = record { down = down_before s key b l t k.down; exits = λ i ex. k.exits i (exits_before s b l t i key (down_table s p (legal_before s b l) key t k.down) ex) }

-- so each pass ends there
pub stuck_there : (s : Setting) (key : List ℕ) (q : Past) → Legal s q → (t u : ℕ) → Stuck s key q t → Down s q key u → Stays s q u key (key_header s q u key) → u ≡ t
stuck_there s key q l t u k du st = ⊎_elim
    (λ (x : born_at s.geometry q t < born_at s.geometry q u).
    let n = (down_order s q l key t u k.down du x).1 in
    let low = gone_below s q l key t n.level (down_table s q l key t k.down) n.gone in
    let up = k.exits n.level n.exits in
    absurd (omega arith))
    (λ (x : born_at s.geometry q u ≤ born_at s.geometry q t). ⊎_elim
    (λ (y : born_at s.geometry q u < born_at s.geometry q t). let n = (down_order s q l key u t du k.down y).1 in absurd (st n.level n.exits n.gone))
    (λ (y : born_at s.geometry q t ≤ born_at s.geometry q u). down_same s q l key u t du k.down (between (born_at s.geometry q u) (born_at s.geometry q t) x y))
    (cases_lt (born_at s.geometry q u) (born_at s.geometry q t)))
    (cases_lt (born_at s.geometry q t) (born_at s.geometry q u))
  where
    between : (x y : ℕ) → x ≤ y → y ≤ x → x ≡ y
    between x y h m = omega arith

-- a table in which the key stayed by a plain header of the greatest depth
pub plain_stuck : (s : Setting) (key : List ℕ) (from q : Past) → Legal s q → (t : ℕ) → (w : Stayed s key from q t) → key_header s w.at t key ≡ PlainAt s.geometry.max_depth → Stuck s key q t
plain_stuck s key from q l t w h =
    stuck_before s key w.till l t (record { down = w.down; exits = λ i ex. let x = stays_depth (key_header s w.at t key) i (λ g. w.stays i ex g) in let y = ap depth h in omega arith })

true_false : {v : Bool} → v ≡ true → v ≡ false → ⊥
true_false h k = cc

-- where the header of the table in which the key stayed has become deeper, more is reached: after an own split, or another's
pub header_deeper : (s : Setting) (key : List ℕ) (from : Past) {z y : Past} (t : ℕ) → (w : Stayed s key from z t) → Before z y → Legal s y → depth (key_header s w.at t key) < depth (key_header s y t key) → Deeper s key from y
header_deeper s key from {z = z} {y = y} t w b l deep d r = by (exit_level (hash s key) (born_at s.geometry y t)) refl
  where
    b2 : Before w.at y
    b2 = Before-trans w.till b

    le : Legal s w.at
    le = legal_before s b2 l

    at : d ≤ depth (key_header s w.at t key)
    at = no_less s key w.from_then le t w.down w.stays d r

    none : {i : ℕ} → None ≡ Some i → ⊥
    none h = cc

    same : {o : Option ℕ} {i j : ℕ} → o ≡ Some i → o ≡ Some j → j ≡ i
    same h k = cc

    here_reached : ((i : ℕ) → Exits s y t key i → IsGone (key_header s y t key) i → ⊥) → Reached s key y (d + 1)
    here_reached st = record { table = t; down = down_before s key b2 l t w.down; deep = (let k = at in omega arith); exits = λ i ex. let x = stays_depth (key_header s y t key) i (λ g. st i ex g) in let k = at in omega arith }

    by : (o : Option ℕ) → exit_level (hash s key) (born_at s.geometry y t) ≡ o → Reached s key y (d + 1)
    by None e = here_reached (λ i ex g. none (sym e ∙ ex))
    by (Some i) e = ⊎_elim (λ (g : IsGone (key_header s y t key) i). left_deeper s key w.from_then b2 l t i w.down w.stays e g d r)
        (λ (n : IsGone (key_header s y t key) i → ⊥). here_reached (λ j ex g. n (subst (IsGone (key_header s y t key)) (same e ex) g))) (gone_or_not (key_header s y t key) i)
