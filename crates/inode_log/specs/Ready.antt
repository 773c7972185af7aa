-- A volume whose sizes and journal were judged: what the readers of inodes ask for.
use Rattle.std.specs.Prelude.{ℕ, ◌+◌, ◌*◌, ◌/◌, ◌%◌, ◌≤◌, ◌<◌, ◌≡◌, true}
use Rattle.model.specs.Words.{Mem}
use Rattle.model.specs.Journal.{dequeue_word, enqueue_word, journal_ok}

-- m are the volume's words, L its length in bytes, P its page count and N its inode count
pub record Ready (m : Mem) (L P N : ℕ) : Type 0 where
  pub journal : journal_ok m N ≡ true
  pub dequeue : m dequeue_word < 16
  pub enqueue : m enqueue_word < 16
  pub bytes : 512 * P ≤ L
  pub pages : P ≤ 4096
  pub inodes : N ≤ 256
  pub eight : N % 8 ≡ 0
  pub room : N / 8 + 4 ≤ P
