-- The script that shows the store under load (this project's): a bank of sixteen accounts, four clients that move money between
-- them and add it all up now and then, and an upgrade of the accounts in the middle. Each transfer keeps the sum at 0.
use Rattle.std.specs.Fmt.{decimal}
use Rattle.std.specs.Prelude.{ℕ, zero, suc, ◌+◌, ◌-◌, ◌*◌, ◌^◌, ◌/◌, ◌%◌, ◌==◌, ◌&&◌, List, [], ◌∷◌, ◌++◌, codes, if◌then◌else◌}

-- ---- numbers that look drawn

-- behind a number (Knuth's linear congruential generator for 64 bits)
abbrev pub next_state : ℕ → ℕ
next_state x = (x * 6364136223846793005 + 1442695040888963407) % 2 ^ 64

-- behind so many draws
abbrev pub state : ℕ → ℕ → ℕ
state n zero = n
state n (suc k) = next_state (state n k)

-- the number that is drawn behind so many others: the upper 31 bits
abbrev pub drawn : ℕ → ℕ → ℕ
drawn n k = state n (suc k) / 2 ^ 33

-- ---- lines

-- the first so many lines of a text
abbrev pub lines : (ℕ → List ℕ) → ℕ → List ℕ
lines line zero = []
lines line (suc k) = lines line k ++ line k

abbrev pub methods : List ℕ
methods = codes "method int get() { return this.n; } method int add(int k) { this.n = this.n + k; return this.n; } method int move(Acct to, int k) { this.n = this.n - k; to.add(k); return k; }"

abbrev pub class_line : List ℕ
class_line = codes "free class Acct { int n; " ++ (methods ++ codes " }\n")

-- the upgrade gives each account a fee
abbrev pub upgrade_line : List ℕ
upgrade_line = codes "upgrade { class Acct { int n = old.n; int fee = 0; " ++ (methods ++ codes " } }\n")

-- accounts are dealt out to the repositories in turn
abbrev pub root_line : ℕ → ℕ → List ℕ
root_line repos i = codes "root a" ++ (decimal i ++ (codes " = new Acct() at " ++ (decimal (i % repos) ++ codes ";\n")))

abbrev pub balance : ℕ → List ℕ
balance i = codes " + a" ++ (decimal i ++ codes ".get()")

abbrev pub later_balance : ℕ → List ℕ
later_balance i = balance (i + 1)

-- an audit prints the sum of all accounts
abbrev pub audit_line : List ℕ
audit_line = codes "tx { print a0.get()" ++ (lines later_balance 15 ++ codes "; }\n")

abbrev pub move_line : ℕ → ℕ → ℕ → List ℕ
move_line from to amount = codes "tx { a" ++ (decimal from ++ (codes ".move(a" ++ (decimal to ++ (codes ", " ++ (decimal amount ++ codes "); }\n")))))

-- a transfer from one account to another, or an audit where both are the same one
abbrev pub transaction_line : ℕ → ℕ → ℕ → List ℕ
transaction_line from to amount = if from == to then audit_line else move_line from to amount

-- how many items a client has
abbrev pub item_count : ℕ → ℕ
item_count n = 25 * n

-- how many numbers are drawn before an item: two for each
abbrev pub draws_before : ℕ → ℕ → ℕ → ℕ
draws_before n client place = 2 * (item_count n * client + place)

-- an item of a client, both from 0 on
abbrev pub item_line : ℕ → ℕ → ℕ → List ℕ
item_line n client place =
    if client == 0 && place == 12 * n then upgrade_line
    else transaction_line (drawn n (draws_before n client place) % 16) (drawn n (draws_before n client place + 1) % 16) (place % 9 + 1)

abbrev pub client_text : ℕ → ℕ → List ℕ
client_text n client = codes "client " ++ (decimal (client + 1) ++ (10 ∷ lines (item_line n client) (item_count n)))

-- how many events the schedule has
abbrev pub event_count : ℕ → ℕ
event_count n = 200 * n

-- Each fiftieth event flushes, each five hundredth makes a checkpoint; at the others a client goes on that is drawn behind all
-- items' numbers.
abbrev pub event_line : ℕ → ℕ → ℕ → List ℕ
event_line n repos e =
    if e % 500 == 499 then codes "k" ++ (decimal ((e / 500) % repos) ++ codes "\n")
    else (if e % 50 == 49 then codes "f" ++ (decimal ((e / 50) % repos) ++ codes "\n")
    else codes "s" ++ (decimal (drawn n (event_count n + (e - e / 50)) % 4 + 1) ++ codes "\n"))

-- ---- the script

abbrev pub script_text : ℕ → ℕ → List ℕ
script_text n repos =
    codes "setup\n" ++ (class_line ++ (lines (root_line repos) 16
    ++ (lines (client_text n) 4 ++ (codes "schedule\n" ++ lines (event_line n repos) (event_count n)))))
