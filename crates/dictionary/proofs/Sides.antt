-- A list of handles and its two sides. In a rising list whose handles agree in the bits before, those with bit 0 stand first.
use Rattle.std.specs.Prelude.{◌≡◌, refl, ◌≢◌, Bool, true, false, cond, not, ◌||◌, List, [], ◌∷◌, ℕ, suc, ◌+◌, ◌*◌, ◌/◌, ◌%◌, ◌^◌, ◌≤◌, ◌<◌, leb, take, drop}
use Rattle.std.proofs.Common.{sym, ap, ◌∙◌, true≢false, le-div_iff_mul-le, div-mul-le_self, le_trans, arith, pow_pos, eqb-true, eq-eqb, leb-true}
use Rattle.std.proofs.Math.Bool.{and-eq-true_iff}
use Rattle.std.proofs.lemmas.Bool.{eqb-false}
use Rattle.lists.specs.Bytes.{Bytes, same, number}
use Rattle.lists.specs.Same.{same_true}
use Rattle.rules.proofs.Parity.{halve}
use Rattle.dictionary.specs.Handles.{leading, turn, is, side, rising_from, has}
use Rattle.dictionary.proofs.Rows.{All}

-- the bit as a number
abbrev pub digit : Bool → ℕ
digit true = 1
digit false = 0

pub turn_true : (e : ℕ) (h : Bytes) → turn e h ≡ true → number h / 2 ^ e % 2 ≡ 1
unfolding turn
turn_true e h t = eqb-true (number h / 2 ^ e % 2) 1 t

pub turn_false : (e : ℕ) (h : Bytes) → turn e h ≡ false → number h / 2 ^ e % 2 ≡ 0
unfolding turn
turn_false e h t = let n : number h / 2 ^ e % 2 ≢ 1 = eqb-false (number h / 2 ^ e % 2) 1 t in omega arith

pub is_self : (b : Bool) → is b b ≡ true
is_self true = refl
is_self false = refl

-- a handle that is kept, and one that is not
pub kept : (b : Bool) (e : ℕ) (h : Bytes) (hs : List Bytes) → is b (turn e h) ≡ true → side b e (h ∷ hs) ≡ h ∷ side b e hs
unfolding side
kept b e h hs t = rw t

pub left_out : (b : Bool) (e : ℕ) (h : Bytes) (hs : List Bytes) → is b (turn e h) ≡ false → side b e (h ∷ hs) ≡ side b e hs
unfolding side
left_out b e h hs t = rw t

-- what is known of one step of `side`, by its test
pub side_ind : (P : List Bytes → List Bytes → Type 0) (b : Bool) (e : ℕ) → P [] []
    → ((h : Bytes) (hs : List Bytes) → is b (turn e h) ≡ true → P hs (side b e hs) → P (h ∷ hs) (h ∷ side b e hs))
    → ((h : Bytes) (hs : List Bytes) → is b (turn e h) ≡ false → P hs (side b e hs) → P (h ∷ hs) (side b e hs))
    → (hs : List Bytes) → P hs (side b e hs)
unfolding side
side_ind P b e none keep leave [] = none
side_ind P b e none keep leave (h ∷ hs) = go (is b (turn e h)) refl (side_ind P b e none keep leave hs)
  where
    go : (x : Bool) → is b (turn e h) ≡ x → P hs (side b e hs) → P (h ∷ hs) (cond x (h ∷ side b e hs) (side b e hs))
    go true t p = keep h hs t p
    go false t p = leave h hs t p

-- what holds of every handle holds of every one on a side
pub side_all : (P : Bytes → Type 0) (b : Bool) (e : ℕ) (hs : List Bytes) → All P hs → All P (side b e hs)
unfolding All
side_all P b e hs = side_ind (λ l r. All P l → All P r) b e (λ a. a) (λ h l t f a. (a.0, f a.1)) (λ h l t f a. f a.1) hs

-- ---- handles that agree in the bits before the last e

abbrev pub Near : ℕ → ℕ → List Bytes → Type 0
Near e p hs = All (λ h. number h / 2 ^ e ≡ p) hs

-- the half that a kept handle lies in
half : (b : Bool) (e p : ℕ) (h : Bytes) → is b (turn e h) ≡ true → number h / 2 ^ suc e ≡ p → number h / 2 ^ e ≡ p * 2 + digit b
half true e p h t n = let d = turn_true e h t in let g = halve (number h) e in omega arith
half false e p h t n = let d = turn_false e h (not_is (turn e h) t) in let g = halve (number h) e in omega arith
  where
    not_is : (x : Bool) → not x ≡ true → x ≡ false
    not_is true e = sym e
    not_is false e = refl

pub side_near : (b : Bool) (e p : ℕ) (hs : List Bytes) → Near (suc e) p hs → Near e (p * 2 + digit b) (side b e hs)
unfolding All
side_near b e p hs =
    side_ind (λ l r. Near (suc e) p l → Near e (p * 2 + digit b) r) b e (λ a. tt) (λ h l t f a. (half b e p h t a.0, f a.1)) (λ h l t f a. f a.1) hs

-- ---- rising lists

-- each handle is at least n, and above the one before it
unfoldable pub Rises : ℕ → List Bytes → Type 0
Rises n [] = Unit {0}
Rises n (h ∷ hs) = (n ≤ number h) × Rises (suc (number h)) hs

pub rises : (n : ℕ) (hs : List Bytes) → rising_from n hs ≡ true → Rises n hs
unfolding rising_from Rises
rises n [] e = tt
rises n (h ∷ hs) e =
    let p = (and-eq-true_iff (leb n (number h)) (rising_from (suc (number h)) hs)).0 e in
    (leb-true n (number h) p.0, rises (suc (number h)) hs p.1)

rises_from : (m n : ℕ) (hs : List Bytes) → m ≤ n → Rises n hs → Rises m hs
unfolding Rises
rises_from m n [] h r = tt
rises_from m n (x ∷ hs) h r = (le_trans h r.0, r.1)

pub side_rises : (b : Bool) (e n : ℕ) (hs : List Bytes) → Rises n hs → Rises n (side b e hs)
unfolding Rises
side_rises b e n hs =
    side_ind (λ l r. (m : ℕ) → Rises m l → Rises m r) b e (λ m a. a) (λ h l t f m a. (a.0, f (suc (number h)) a.1))
    (λ h l t f m a. rises_from m (suc (number h)) (side b e l) (omega (arith, a.0)) (f (suc (number h)) a.1)) hs n

-- ---- those with bit 0 stand first

div_mono : (a b k : ℕ) → 0 < k → a ≤ b → a / k ≤ b / k
div_mono a b k pos h = (le-div_iff_mul-le pos).1 (le_trans (div-mul-le_self a k) h)

-- behind a handle with bit 1 there are no others
pub record Ones (e : ℕ) (hs : List Bytes) : Type 0 where
  pub none : side false e hs ≡ []
  pub every : side true e hs ≡ hs

one_here : (e p : ℕ) (x : Bytes) → p * 2 + 1 ≤ number x / 2 ^ e → number x / 2 ^ suc e ≡ p → turn e x ≡ true
unfolding turn
one_here e p x h n = let g = halve (number x) e in eq-eqb (number x / 2 ^ e % 2) 1 (omega arith)

ones : (e p n : ℕ) (hs : List Bytes) → p * 2 + 1 ≤ n / 2 ^ e → Near (suc e) p hs → Rises n hs → Ones e hs
unfolding side All Rises
ones e p n [] h near r = record { none = refl; every = refl }
ones e p n (x ∷ hs) h near r =
    let up = div_mono n (number x) (2 ^ e) (pow_pos e) r.0 in
    let next = div_mono (number x) (suc (number x)) (2 ^ e) (pow_pos e) (omega arith) in
    let one : turn e x ≡ true = one_here e p x (omega arith) near.0 in
    let rest = ones e p (suc (number x)) hs (omega arith) near.1 r.1 in
    record {
      none = left_out false e x hs (ap not one) ∙ rest.none;
      every = kept true e x hs one ∙ ap {B = List Bytes} (λ l. x ∷ l) rest.every;
    }

pub record Split (e : ℕ) (hs : List Bytes) : Type 0 where
  pub zeros_first : side false e hs ≡ take (leading e hs) hs
  pub ones_behind : side true e hs ≡ drop (leading e hs) hs

-- IN A RISING LIST the handles with bit 0 stand first.
pub split : (e p n : ℕ) (hs : List Bytes) → Near (suc e) p hs → Rises n hs → Split e hs
unfolding side All Rises leading
split e p n [] near r = record { zeros_first = refl; ones_behind = refl }
split e p n (h ∷ hs) near r = go (turn e h) refl (split e p (suc (number h)) hs near.1 r.1)
  where
    go : (b : Bool) → turn e h ≡ b → Split e hs → Split e (h ∷ hs)
    go true t s =
        let d = turn_true e h t in
        let g = halve (number h) e in
        let m = near.0 in
        let o = ones e p (suc (number h)) hs (le_trans (omega arith) (div_mono (number h) (suc (number h)) (2 ^ e) (pow_pos e) (omega arith))) near.1 r.1 in
        let l : leading e (h ∷ hs) ≡ 0 = rw t in
        record {
          zeros_first = left_out false e h hs (ap not t) ∙ o.none ∙ sym (ap (λ (n : ℕ). take n (h ∷ hs)) l);
          ones_behind = kept true e h hs t ∙ ap {B = List Bytes} (λ x. h ∷ x) o.every ∙ sym (ap (λ (n : ℕ). drop n (h ∷ hs)) l);
        }
    go false t s =
        let l : leading e (h ∷ hs) ≡ suc (leading e hs) = rw t in
        record {
          zeros_first = kept false e h hs (ap not t) ∙ ap {B = List Bytes} (λ x. h ∷ x) s.zeros_first ∙ sym (ap (λ (n : ℕ). take n (h ∷ hs)) l);
          ones_behind = left_out true e h hs t ∙ s.ones_behind ∙ sym (ap (λ (n : ℕ). drop n (h ∷ hs)) l);
        }

-- ---- a handle stands in a list where it stands on its own side of it

pub has_side : (k : Bytes) (e : ℕ) (hs : List Bytes) → has k (side (turn e k) e hs) ≡ has k hs
unfolding has
has_side k e hs =
    side_ind (λ l r. has k r ≡ has k l) (turn e k) e refl (λ h l t f. ap (λ (x : Bool). same h k || x) f)
    (λ h l t f. f ∙ sym (ap (λ (x : Bool). x || has k l) (other h t))) hs
  where
    other : (h : Bytes) → is (turn e k) (turn e h) ≡ false → same h k ≡ false
    other h t = go (same h k) refl
      where
        go : (b : Bool) → same h k ≡ b → b ≡ false
        go true s = absurd (true≢false (sym (is_self (turn e k)) ∙ sym (ap (λ (x : Bytes). is (turn e k) (turn e x)) (same_true h k s)) ∙ t))
        go false s = refl
