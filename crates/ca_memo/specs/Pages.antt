-- What the memo of a leaper keeps: pages of results, single results, and the order in which they were used (our own).
use Rattle.std.specs.Prelude.{◌≡◌, ℕ, ◌≤◌, ◌/◌, ◌%◌, List, [], Option, Some, length, slice_get}
use Rattle.std.specs.List.{Contains}
use Rattle.lru.specs.LruCache.{LruCache}
use Rattle.ca_memo.specs.declared.{key.Key.Key, page.Page.Page}
use Rattle.ca_memo.specs.declared.key.Key.TheVariants.{Page as OfPage, Single}

-- pages by number, and the keys of pages and of single results in the order of their use
pub record MemoView : Type 0 where
  pub pages : List (Option Page)
  pub order : LruCache Key (Option ℕ)

-- a page is among the keys
abbrev pub HasPageKey : List (Key × Option ℕ) → ℕ → Type 0
HasPageKey entries n = (v : Option ℕ) × Contains entries (OfPage n, v)

-- each page that stands is among the keys
abbrev pub ArePagesKept : List (Option Page) → List (Key × Option ℕ) → Type 0
ArePagesKept pages entries = (n : ℕ) (page : Page) → slice_get pages n ≡ Some (Some page) → HasPageKey entries n

-- each page that stands is among the keys, and there are no more keys than there may be
pub record IsBoundedMemo (pages : List (Option Page)) (order : LruCache Key (Option ℕ)) : Type 0 where
  pub held : ArePagesKept pages order.entries
  pub most : length order.entries ≤ order.cap

-- a slot of a page has a result
abbrev pub HasSlot : Page → ℕ → ℕ → Type 0
HasSlot page i result_id = slice_get page.slots i ≡ Some (Some result_id)

-- the page of a square has its result at full leap
abbrev pub HasFullLeapIn : List (Option Page) → ℕ → ℕ → Type 0
HasFullLeapIn pages id result_id = (page : Page) × (slice_get pages (id / 64) ≡ Some (Some page)) × HasSlot page (id % 64) result_id

abbrev pub HasFullLeap : MemoView → ℕ → ℕ → Type 0
HasFullLeap memo id result_id = HasFullLeapIn memo.pages id result_id

-- there is a single result of a square after 2 ^ j generations
abbrev pub HasSingleIn : List (Key × Option ℕ) → ℕ → ℕ → ℕ → Type 0
HasSingleIn entries id j result_id = Contains entries (Single id j, Some result_id)

abbrev pub HasSingle : MemoView → ℕ → ℕ → ℕ → Type 0
HasSingle memo id j result_id = HasSingleIn memo.order.entries id j result_id

-- nothing is remembered that wasn't, and as much may be
pub record RemembersNoMore (old new : MemoView) : Type 0 where
  pub full_leaps : (id result_id : ℕ) → HasFullLeap new id result_id → HasFullLeap old id result_id
  pub singles : (id j result_id : ℕ) → HasSingle new id j result_id → HasSingle old id j result_id
  pub capacity : new.order.cap ≡ old.order.cap

-- nothing is remembered
pub record IsBlankMemo (memo : MemoView) : Type 0 where
  pub pages : memo.pages ≡ []
  pub entries : memo.order.entries ≡ []
