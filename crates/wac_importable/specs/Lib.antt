pub mod Importable
