-- Lemmas on what a word stands for.
mod Numeral
