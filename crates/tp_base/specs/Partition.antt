use Rattle.std.specs.Prelude.{ℕ, ◌+◌, ◌%◌, List, sum}

-- the number of the partition, from 1, that a key belongs to where there are so many partitions
abbrev pub partition_number : List ℕ → ℕ → ℕ
partition_number key partitions = sum key % partitions + 1
